pub mod GroupTests
pub mod Repeats
pub mod Plans
pub mod Counts
pub mod PlanParts
