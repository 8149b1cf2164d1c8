pub mod Entry
pub mod Line
