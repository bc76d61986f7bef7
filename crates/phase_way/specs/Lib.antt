pub mod Ways
pub mod Choice
pub mod Rooms
pub mod Passed
