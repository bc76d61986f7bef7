pub mod Polynomial
pub mod Hours
pub mod Laws
