pub mod Steps
pub mod Columns
pub mod Kept
pub mod Floors
pub mod Weights
pub mod Held
