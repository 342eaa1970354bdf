pub mod ZeroLemmas
pub mod AnswerLemmas
pub mod AskLemmas
pub mod DecidingLemmas
pub mod SameInsnLemmas
