pub mod AccessLemmas
pub mod ArgumentLemmas
pub mod NeedLemmas
pub mod DescribedWordLemmas
