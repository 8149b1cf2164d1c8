pub mod Lines
pub mod Reading
pub mod Right
