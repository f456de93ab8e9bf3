pub mod Kinds
pub mod Lexing
pub mod Places
pub mod Slices
pub mod Uniqueness
