pub mod Replies
pub mod TableWriting
