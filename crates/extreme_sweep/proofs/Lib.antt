mod Answering
mod Blocks
mod Giving
mod Grouping
mod Holding
mod Ints
mod Joining
mod Mending
mod Packing
mod PairLaws
mod Ranges
mod RankOrder
mod Runs
mod Scanning
mod Slotting
mod Writing
pub mod Relaying
