pub mod Forming
pub mod RightSides
pub mod Sixteen
pub mod Steps
pub mod Totals
