pub mod Entered
pub mod Greatest
