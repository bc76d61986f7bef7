pub mod Kept
pub mod Pairs
pub mod Products
pub mod Rooms
