pub mod Stills
pub mod Workers
