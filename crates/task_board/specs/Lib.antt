pub mod Job
pub mod Summing
pub mod Working
