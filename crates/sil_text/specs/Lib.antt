pub mod Decimal
pub mod Fault
pub mod Figure
pub mod FixedBy
pub mod Name
pub mod Parts
pub mod Reading
pub mod Values
