pub mod Keys
pub mod Laws
pub mod Marks
pub mod Nearest
pub mod Queries
pub mod Trees
