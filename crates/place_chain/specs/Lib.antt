pub mod Marks
pub mod Places
pub mod PlaceChain
pub mod Phases
pub mod Sweeps
