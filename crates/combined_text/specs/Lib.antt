pub mod CombinedText
pub mod inner
