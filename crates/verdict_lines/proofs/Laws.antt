pub mod Asking
pub mod Listing
pub mod Written
