pub mod Forms
pub mod Frame
pub mod Rank
pub mod Rights
pub mod Writing
