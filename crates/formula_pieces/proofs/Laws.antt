pub mod Adds
pub mod Masks
pub mod Sets
