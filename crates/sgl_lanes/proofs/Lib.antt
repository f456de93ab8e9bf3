pub mod Divisions
pub mod Factors
pub mod Held
pub mod LaneSets
pub mod Reach
