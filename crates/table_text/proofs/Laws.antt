-- Laws that several proofs cite, by topic.
pub mod Progress
pub mod Readings
pub mod Tables
