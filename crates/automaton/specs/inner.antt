pub mod DeadEnds
pub mod Positions
pub mod Search
pub mod Sizes
pub mod Words
