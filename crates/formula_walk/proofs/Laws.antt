pub mod Closing
pub mod NodeTexts
pub mod Opening
pub mod Stack
pub mod Walk
pub mod Writing
