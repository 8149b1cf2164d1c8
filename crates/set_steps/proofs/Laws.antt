pub mod Carried
pub mod Masks
pub mod Sums
pub mod Tests
