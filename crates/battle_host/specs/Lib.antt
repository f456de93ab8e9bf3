pub mod Explain
pub mod Play
pub mod Reading
pub mod Run
pub mod Source
pub mod Start
pub mod StatusLine
