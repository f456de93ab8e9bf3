pub mod Circles
pub mod Links
pub mod Walks
