-- Laws that several proofs cite, by topic.
pub mod Bits
pub mod Lowest
pub mod Zeros
