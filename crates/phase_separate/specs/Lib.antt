pub mod Subsystems
pub mod Passes
pub mod Ends
pub mod Losses
pub mod Products
pub mod Extents
pub mod Rooms
