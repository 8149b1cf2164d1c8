pub mod Answers
pub mod Anywhere
pub mod Beginnings
pub mod Examples
pub mod Prepared
pub mod Refusals
pub mod Wrong
