pub mod Answered
pub mod Beside
