pub mod CursorReplies
