pub mod BandOf
pub mod Meets
pub mod Texts
