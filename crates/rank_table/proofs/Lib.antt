pub mod Bucketing
pub mod Counted
pub mod Ordering
pub mod Ranking
