pub mod ElementTexts
mod Examples
pub mod PlanTexts
pub mod Sums
