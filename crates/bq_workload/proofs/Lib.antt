-- The queue of what is due: a tree of least numbers
pub mod TreeLemmas
-- The queue agrees with the accounts of tasks and processors, after each of their changes
pub mod ListLemmas
pub mod AgreesAtLemmas
pub mod ProcessorAgreesLemmas
pub mod TaskAgreesLemmas
pub mod RosterAgreesLemmas
pub mod OpeningAgreesLemmas
-- What the queue says comes next, and when it is over
pub mod NextDueLemmas
pub mod OverLemmas
-- The calls of a roster: why a switch fails, and from which processor one pulls
pub mod StrayLemmas
pub mod LargestLemmas
-- Lengths that are drawn
pub mod DigitLemmas
pub mod LogarithmLemmas
pub mod FallingLemmas
-- Which workloads can be followed, and how many steps they take at most
pub mod MaskLemmas
pub mod SoundLemmas
pub mod BoundLemmas
