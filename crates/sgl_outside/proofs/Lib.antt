pub mod LeftBytes
pub mod Writes
