pub mod AllowedLemmas
pub mod KeptLemmas
