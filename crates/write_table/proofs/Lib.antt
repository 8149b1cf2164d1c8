pub mod Laws
pub mod ReadBack
pub mod Refusals
