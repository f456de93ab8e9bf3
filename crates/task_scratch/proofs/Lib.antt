pub mod Columns
pub mod Joining
pub mod RowSets
pub mod Sorts
