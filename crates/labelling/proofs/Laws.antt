-- Laws that several proofs cite, by topic.
pub mod Nodes
pub mod Prepared
pub mod Rows
