pub mod Kept
pub mod Read
pub mod Small
pub mod Write
