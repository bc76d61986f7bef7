pub mod ShownNames
pub mod Walks
pub mod Entries
pub mod Valid
pub mod Whole
pub mod Ranges
pub mod Order
