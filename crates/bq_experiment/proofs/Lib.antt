pub mod LimitLemmas
pub mod NameLemmas
pub mod PassingLemmas
pub mod PolicyImageLemmas
pub mod TakingLemmas
pub mod TraceLemmas
pub mod ViewLemmas
