-- Laws that several proofs cite, by topic.
pub mod Signatures
pub mod Looked
pub mod Rounds
