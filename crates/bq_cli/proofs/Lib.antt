pub mod AnswerLemmas
pub mod CommandLemmas
