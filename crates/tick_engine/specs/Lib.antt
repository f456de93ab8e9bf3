pub mod Battles
pub mod Jobs
pub mod Leaving
pub mod Prepared
pub mod Runs
pub mod State
