pub mod ResultLemmas
pub mod WritingLemmas
