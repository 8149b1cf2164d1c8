pub mod Sizes
pub mod Automata
pub mod Smallest
pub mod Listings
pub mod Sets
pub mod Bytes
pub mod SmallestAsked
pub mod inner
