pub mod PassLemmas
pub mod NearnessLemmas
pub mod GreatestLemmas
pub mod OwedLemmas
pub mod UnchangedLagLemmas
pub mod MeasureLemmas
pub mod LagBoundLemmas
