pub mod Points
pub mod Ranged
