pub mod OutcomeLemmas
pub mod TightLemmas
pub mod TestLemmas
pub mod MoveLemmas
pub mod SignedLemmas
pub mod BitLemmas
