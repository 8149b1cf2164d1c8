pub mod Answers
pub mod BothTexts
pub mod Ending
pub mod Explaining
pub mod Into
pub mod Promised
pub mod Told
