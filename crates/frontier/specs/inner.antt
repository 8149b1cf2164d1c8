pub mod Frontier
pub mod Reached
pub mod Sizes
