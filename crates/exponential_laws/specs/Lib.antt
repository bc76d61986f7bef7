pub mod Exponential
pub mod Laws
