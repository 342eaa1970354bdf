pub mod AnsweredLemmas
pub mod LawLemmas
