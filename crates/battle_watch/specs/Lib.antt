pub mod Stages
pub mod Watches
pub mod Watching
