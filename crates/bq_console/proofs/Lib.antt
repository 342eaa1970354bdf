pub mod FoundLemmas
pub mod GivenLemmas
pub mod TableLemmas
pub mod WordLemmas
pub mod JoinedLemmas
