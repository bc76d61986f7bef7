pub mod Powers
pub mod Rungs
pub mod Losses
pub mod Rooms
