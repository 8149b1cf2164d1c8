pub mod Fresh
pub mod LaidOut
