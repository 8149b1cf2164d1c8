-- Laws that several proofs cite, by topic.
pub mod Bytes
pub mod Columns
pub mod ColumnsRead
pub mod Compared
pub mod Decimal
pub mod Figures
pub mod Kept
pub mod Pasted
pub mod Pasting
pub mod Scan
pub mod Small
pub mod SmallRead
