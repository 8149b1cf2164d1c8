-- Laws of rows and edges in their places.
pub mod ReadBack
pub mod Stores
