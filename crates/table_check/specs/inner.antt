pub mod Filled
pub mod Keys
