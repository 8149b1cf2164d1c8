pub mod LineReplies
