pub mod Paths
pub mod Rows
pub mod Steps
pub mod Storing
pub mod Walking
