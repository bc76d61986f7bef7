pub mod Passes
pub mod Rooms
pub mod Runs
