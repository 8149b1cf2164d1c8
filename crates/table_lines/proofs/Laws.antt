-- Laws that several proofs cite, by topic.
pub mod Numbers
pub mod Pairs
