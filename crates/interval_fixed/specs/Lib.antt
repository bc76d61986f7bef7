pub mod DotValue
