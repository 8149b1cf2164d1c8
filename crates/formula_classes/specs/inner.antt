pub mod Phases
pub mod WalkReplies
