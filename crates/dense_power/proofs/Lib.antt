pub mod Products
pub mod Weights
pub mod RowProducts
pub mod Lacks
pub mod Pairs
pub mod Digits
pub mod Places
pub mod Scratch
