pub mod Fields
pub mod Kept
pub mod Laws
pub mod Lines
pub mod Numbers
pub mod Records
pub mod Units
