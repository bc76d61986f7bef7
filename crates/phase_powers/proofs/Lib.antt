pub mod Units
pub mod Losses
pub mod Phases
