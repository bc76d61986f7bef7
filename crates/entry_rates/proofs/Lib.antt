pub mod Returns
pub mod Repairs
pub mod Known
pub mod Entries
pub mod Greatest
pub mod Turn
pub mod CountRates
