pub mod Replied
pub mod Right
