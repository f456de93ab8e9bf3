pub mod Arrays
pub mod Pushes
pub mod Table
