pub mod Adding
pub mod Limits
pub mod Logs
pub mod StatementSteps
pub mod Within
