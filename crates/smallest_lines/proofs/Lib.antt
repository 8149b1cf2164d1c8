pub mod Examples
pub mod Laws
pub mod Printed
pub mod Right
