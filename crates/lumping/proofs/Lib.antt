pub mod Closed
pub mod Fours
pub mod Turns
pub mod Few
pub mod Moves
