pub mod Counts
pub mod Scanning
