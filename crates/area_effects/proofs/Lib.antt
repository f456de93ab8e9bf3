pub mod Adding
pub mod Counting
pub mod Covering
pub mod Finding
pub mod Giving
pub mod Spotting
pub mod Starts
