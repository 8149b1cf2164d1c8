pub mod Chains
pub mod Entering
