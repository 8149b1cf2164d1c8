pub mod LineText
pub mod inner
