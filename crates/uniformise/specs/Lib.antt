pub mod Beat
pub mod Rooms
