pub mod Nearby
pub mod Points
