-- Laws of lines.
pub mod Lines
