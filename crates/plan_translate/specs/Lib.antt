pub mod Calls
pub mod Emission
pub mod Lists
pub mod Sides
pub mod Translation
