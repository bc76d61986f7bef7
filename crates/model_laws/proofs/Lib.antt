pub mod Series
pub mod Operators
pub mod Beats
pub mod Weighing
pub mod Totals
pub mod Rates
pub mod Shares
pub mod Pays
