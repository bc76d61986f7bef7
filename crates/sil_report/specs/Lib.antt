pub mod Texts
pub mod Intervals
pub mod FixedBy
pub mod Reports
