pub mod Groups
pub mod GroupBounds
pub mod StatesAlone
