-- Laws that several proofs cite, by topic.
pub mod Exits
pub mod Labels
pub mod StepArray
