pub mod Sums
pub mod Steps
pub mod Binomial
pub mod Terms
