pub mod Vectors
pub mod Laws
pub mod Matrix
pub mod Rows
pub mod Block
pub mod BlockLaws
