pub mod Puts
pub mod Bytes
pub mod Whole
