pub mod Booleans
pub mod Examples
pub mod Laws
pub mod Lists
pub mod Silence
pub mod StepsFrom
