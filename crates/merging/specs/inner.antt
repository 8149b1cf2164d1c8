pub mod Alike
pub mod Rounds
