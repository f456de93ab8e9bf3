pub mod Batch
pub mod Combined
pub mod Finished
pub mod Laws
pub mod Places
pub mod Standing
pub mod Words
