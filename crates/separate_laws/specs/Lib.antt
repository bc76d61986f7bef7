pub mod Digits
pub mod DigitLaws
pub mod Separate
pub mod Laws
pub mod Subsystems
