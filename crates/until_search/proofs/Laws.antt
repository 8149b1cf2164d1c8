-- Laws that several proofs cite, by topic.
pub mod Agree
pub mod Flags
pub mod Links
pub mod Queue
pub mod Searched
pub mod Transitions
