pub mod Answering
pub mod Entry
