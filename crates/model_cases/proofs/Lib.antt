mod Worked
mod Phases
mod Budgets
mod Edges
mod Traded
mod Compared
