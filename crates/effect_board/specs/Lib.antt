pub mod Handles
pub mod Lanes
pub mod Laws
pub mod Rule
pub mod Views
