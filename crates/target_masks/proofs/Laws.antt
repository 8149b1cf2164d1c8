-- Laws that several proofs cite, by topic.
pub mod MasksFound
pub mod Places
