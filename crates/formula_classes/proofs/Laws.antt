-- Laws that several proofs cite, by topic.
pub mod Decided
pub mod LastNone
pub mod Walked
pub mod Phases
