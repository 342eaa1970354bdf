pub mod NumberLemmas
pub mod WordLemmas
pub mod WordCountLemmas
pub mod SizeLemmas
pub mod SplittingLemmas
pub mod DurationLemmas
