pub mod Bits
pub mod Steps
pub mod Rows
pub mod Listed
pub mod Found
pub mod Ready
