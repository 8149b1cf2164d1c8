pub mod Growing
pub mod Kept
pub mod Lengths
pub mod Lines
pub mod Names
