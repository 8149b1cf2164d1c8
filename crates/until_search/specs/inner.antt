pub mod Flags
pub mod Links
pub mod Queue
