pub mod Buffers
pub mod Files
pub mod HandedBytes
pub mod Logs
pub mod Writers
