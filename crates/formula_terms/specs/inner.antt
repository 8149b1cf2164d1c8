pub mod TermReplies
pub mod Prefixes
