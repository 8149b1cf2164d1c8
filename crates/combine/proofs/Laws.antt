-- Laws that several proofs cite, by topic.
pub mod Entry
pub mod Outcomes
pub mod Steps
