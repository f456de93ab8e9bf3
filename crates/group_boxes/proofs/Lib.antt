pub mod Answering
pub mod Apart
pub mod Holding
pub mod Smallness
