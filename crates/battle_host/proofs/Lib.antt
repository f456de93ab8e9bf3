pub mod Explained
pub mod Plans
pub mod Published
pub mod Reaching
pub mod Runs
pub mod Starts
pub mod WatchedRuns
