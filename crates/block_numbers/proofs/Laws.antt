pub mod Entered
pub mod Columns
pub mod Searching
