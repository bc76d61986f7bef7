pub mod Cases
pub mod Budgets
pub mod Exchange
pub mod Orders
