pub mod CfsLawLemmas
pub mod BoundLemmas
pub mod MoveLemmas
pub mod LevelLemmas
pub mod SpreadBeginLemmas
pub mod SpreadStayLemmas
pub mod LeastLemmas
