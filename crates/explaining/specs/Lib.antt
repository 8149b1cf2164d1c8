pub mod Outcome
pub mod Promise
pub mod Replies
pub mod inner
