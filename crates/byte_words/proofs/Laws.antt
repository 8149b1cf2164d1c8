-- Laws that several proofs cite, by topic.
pub mod Ends
pub mod Words
