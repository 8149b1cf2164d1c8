pub mod Both
pub mod Examples
pub mod Lines
pub mod Right
