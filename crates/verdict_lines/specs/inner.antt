pub mod Asking
pub mod FileLines
