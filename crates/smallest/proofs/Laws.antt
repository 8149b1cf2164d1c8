-- Laws that several proofs cite, by topic.
pub mod Laid
pub mod Written
pub mod Entry
pub mod Zeros
