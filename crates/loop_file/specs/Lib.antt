pub mod Walk
pub mod Paths
pub mod Readings
pub mod Tree
pub mod LoopFile
pub mod Order
