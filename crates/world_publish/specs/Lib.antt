pub mod Machine
pub mod Showing
pub mod Steps
