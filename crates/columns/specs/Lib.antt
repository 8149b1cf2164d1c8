pub mod Ascii
pub mod Bytes
pub mod Columns
pub mod Lines
pub mod inner
