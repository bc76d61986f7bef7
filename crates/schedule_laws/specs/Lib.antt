pub mod Laws
pub mod BudgetLaws
