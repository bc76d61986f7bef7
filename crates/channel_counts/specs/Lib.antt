pub mod GroupSums
