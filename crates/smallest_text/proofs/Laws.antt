-- Laws of lines, and of the bytes that they are read from.
pub mod Lines
pub mod Held
