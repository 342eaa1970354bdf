pub mod SameLemmas
pub mod RelocationLemmas
