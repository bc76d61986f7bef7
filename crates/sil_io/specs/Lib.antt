pub mod Bytes
pub mod Faults
pub mod Handed
pub mod Outside
pub mod Reading
pub mod ShelfState
pub mod SinkState
