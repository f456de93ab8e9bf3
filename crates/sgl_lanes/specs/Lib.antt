pub mod Columns
pub mod Divisors
pub mod Factors
pub mod Lanes
pub mod Sides
