pub mod Files
pub mod Scan
pub mod Writing
