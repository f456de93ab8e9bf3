pub mod Finding
pub mod Lexemes
pub mod SignTable
pub mod Single
pub mod Steps
pub mod Within
pub mod WordTable
