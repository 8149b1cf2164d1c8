pub mod Brackets
pub mod HeadReplies
