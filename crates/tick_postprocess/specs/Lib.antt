pub mod Answer
pub mod Blocks
pub mod Pieces
pub mod Rows
pub mod Runs
pub mod Unit
