pub mod Count
pub mod Holds
