pub mod SetReplies
pub mod OperandPhases
