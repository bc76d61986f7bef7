pub mod Walks
pub mod Valid
pub mod Units
pub mod Powers
pub mod Products
