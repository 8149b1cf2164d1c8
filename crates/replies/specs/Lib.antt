pub mod Interface
pub mod inner
