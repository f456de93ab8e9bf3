pub mod Events
pub mod Publishing
pub mod Runs
