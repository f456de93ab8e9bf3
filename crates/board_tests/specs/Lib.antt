pub mod Still
pub mod Workers
