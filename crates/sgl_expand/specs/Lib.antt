pub mod Expand
pub mod Meaning
pub mod Pruned
pub mod Sizes
pub mod Steps
pub mod Written
