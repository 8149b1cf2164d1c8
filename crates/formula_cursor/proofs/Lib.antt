pub mod ReadingMoves
mod ReadingNames
pub mod ReadingPlaces
pub mod ReadingTexts
