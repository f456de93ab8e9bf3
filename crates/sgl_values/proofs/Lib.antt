pub mod Combining
pub mod Gathered
pub mod LeastLaws
pub mod Permutations
pub mod WrittenDigits
