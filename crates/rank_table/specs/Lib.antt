pub mod Buckets
pub mod Counting
pub mod Laws
pub mod Orders
pub mod Ranks
