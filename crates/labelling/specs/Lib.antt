pub mod Nodes
pub mod Replies
