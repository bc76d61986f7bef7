pub mod Near
pub mod Real
pub mod RealLaws
pub mod Bounds
pub mod Exact
pub mod Laws
pub mod Process
pub mod Finer
