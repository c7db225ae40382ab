pub mod Numbered
pub mod Indexed
pub mod Readings
pub mod Reached
pub mod Plans
pub mod PlanView
