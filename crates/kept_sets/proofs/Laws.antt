pub mod Kept
pub mod Words
