pub mod Bare
pub mod Descents
pub mod Rewrite
pub mod Rewritten
pub mod Tidy
pub mod Trails
