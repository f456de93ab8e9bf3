pub mod Samples
pub mod Towers
