pub mod ClosingLemmas
pub mod SendLemmas
