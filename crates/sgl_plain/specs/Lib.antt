pub mod Acting
pub mod Collected
pub mod Leads
pub mod Restored
