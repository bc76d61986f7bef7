pub mod Beats
pub mod Means
pub mod Passes
pub mod Ends
pub mod OverPlaces
pub mod Parts
