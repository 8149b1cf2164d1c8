pub mod SmallestText
pub mod inner
