pub mod Core
pub mod Events
pub mod Fair
pub mod Laws
pub mod Plays
pub mod Standing
