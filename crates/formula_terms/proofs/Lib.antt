pub mod ReadingChains
pub mod ReadingTerms
