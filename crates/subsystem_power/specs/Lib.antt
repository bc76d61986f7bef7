pub mod Powers
pub mod Rooms
