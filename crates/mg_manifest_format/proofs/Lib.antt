pub mod FlawLaws
pub mod LengthLaws
pub mod ListLaws
pub mod ReadingLaws
pub mod SpellingLaws
