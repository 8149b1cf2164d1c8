pub mod Back
pub mod FileLine
