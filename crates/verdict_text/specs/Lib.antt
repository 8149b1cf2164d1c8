pub mod VerdictsText
pub mod inner
