pub mod Answered
pub mod Asking
pub mod Numbers
pub mod Told
pub mod Written
