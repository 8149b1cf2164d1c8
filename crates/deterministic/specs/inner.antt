pub mod Lists
pub mod Search
pub mod Blocks
pub mod Subsets
pub mod Arrays
pub mod Explored
pub mod Smallest
