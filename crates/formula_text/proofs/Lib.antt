mod ReadingAnswers
mod ReadingEntry
