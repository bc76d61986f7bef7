pub mod Passed
pub mod Products
pub mod PlanBeats
