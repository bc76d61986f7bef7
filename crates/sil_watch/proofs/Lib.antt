pub mod SeriesLines
pub mod FixedBy
pub mod Lists
pub mod Folds
pub mod Pieces
pub mod Peaks
pub mod Hours
