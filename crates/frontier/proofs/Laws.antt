-- Laws that several proofs cite, by topic.
pub mod Accepting
pub mod Bits
pub mod Frontiers
pub mod Reaching
pub mod Through
pub mod Left
