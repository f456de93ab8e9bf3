pub mod FaultLines
pub mod Lines
pub mod PlanLines
pub mod RunLines
