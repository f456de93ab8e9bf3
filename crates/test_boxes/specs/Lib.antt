pub mod Forms
pub mod Keys
pub mod Others
pub mod Ranges
pub mod Readings
