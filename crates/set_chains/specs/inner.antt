pub mod Chains
pub mod Entering
pub mod Hash
