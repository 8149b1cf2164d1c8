pub mod Endings
pub mod Inserted
pub mod Keys
pub mod LabelNames
pub mod Order
pub mod Partners
pub mod Places
pub mod SlotKeys
