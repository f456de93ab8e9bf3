pub mod Building
pub mod Entries
mod Examples
pub mod FieldCount
pub mod Parts
pub mod RecordsLeft
pub mod Schemas
pub mod Tables
pub mod Turns
pub mod WorldLines
