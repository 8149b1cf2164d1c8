pub mod Starts
pub mod VerdictsAsked
pub mod inner
