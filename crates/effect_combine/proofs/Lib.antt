pub mod BatchAmounts
pub mod BatchLemmas
pub mod Finishing
pub mod Grids
pub mod Merging
pub mod Putting
