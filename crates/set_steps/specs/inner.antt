pub mod Finals
pub mod Sums
