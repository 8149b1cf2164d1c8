-- Laws that several proofs cite, by topic.
pub mod Entries
pub mod Fresh
pub mod LayOut
