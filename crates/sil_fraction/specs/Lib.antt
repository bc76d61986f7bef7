pub mod Ratio
pub mod Fraction
pub mod Sum
pub mod Laws
