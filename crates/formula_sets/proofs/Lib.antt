pub mod LastBytes
pub mod ReaderCycles
pub mod ReadingSets
