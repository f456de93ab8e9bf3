pub mod Circles
pub mod Covers
pub mod Grid
pub mod Kept
pub mod Keys
pub mod Rows
pub mod Skips
