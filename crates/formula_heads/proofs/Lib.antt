mod ReadingBrackets
mod ReadingHeads
pub mod Refusals
