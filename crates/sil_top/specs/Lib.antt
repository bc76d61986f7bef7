pub mod Causes
pub mod Complete
pub mod Program
pub mod Promises
pub mod Report
pub mod Run
pub mod Watchers
