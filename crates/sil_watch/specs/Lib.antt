pub mod Kinds
pub mod Watching
pub mod Records
pub mod Lines
pub mod Series
pub mod Peak
pub mod Occupancy
pub mod FixedBy
