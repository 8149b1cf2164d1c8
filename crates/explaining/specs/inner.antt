pub mod Answered
pub mod Readings
pub mod Told
pub mod Values
