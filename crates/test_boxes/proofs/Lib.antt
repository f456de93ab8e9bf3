pub mod Boxing
pub mod Filters
pub mod Grouped
pub mod Shapes
pub mod Steps
pub mod TakenOff
