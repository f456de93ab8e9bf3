pub mod Columns
pub mod Job
pub mod Ran
pub mod Scratch
pub mod Sorts
