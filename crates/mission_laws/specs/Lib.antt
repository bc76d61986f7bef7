pub mod Counted
pub mod Paid
pub mod Calm
pub mod Missions
pub mod UnderWay
pub mod Losses
pub mod Arrived
pub mod PhaseLaws
