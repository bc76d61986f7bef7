pub mod Rows
pub mod Spread
pub mod Halves
pub mod Hours
pub mod Places
pub mod Made
pub mod HourTests
