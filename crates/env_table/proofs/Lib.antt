pub mod Columns
pub mod Keys
pub mod LaneRows
pub mod Rows
pub mod Storing
