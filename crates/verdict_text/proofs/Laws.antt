pub mod Entries
pub mod Lines
