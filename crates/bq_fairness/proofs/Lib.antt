-- The tasks that are present at a processor: what a decision and a Tick do to each of them and to sums, and what Ticks book
pub mod PlaceLemmas
pub mod DecideLemmas
pub mod TickLemmas
pub mod SoundLemmas
pub mod SumLemmas
pub mod ListLemmas
pub mod WorkLemmas
-- CFS over Ticks: who runs is near each, so each task is served its share
pub mod CfsFairLemmas
pub mod CfsShareLemmas
-- EEVDF over Ticks: who runs is eligible, so a processor stays balanced, and each task is served its share
pub mod EligibleLemmas
pub mod EevdfFairLemmas
pub mod BalanceLemmas
pub mod OwedLemmas
pub mod EevdfShareLemmas
-- EEVDF over Ticks, by slices: none comes far beyond a deadline, and a task's slice bounds what it is owed and how long it waits
pub mod DueLemmas
pub mod EevdfSliceLemmas
-- While others come and go: over steps two tasks that are present throughout are served in proportion
pub mod StepLemmas
pub mod NearThroughoutLemmas
pub mod ThroughoutLemmas
pub mod TickStepLemmas
-- In the world: each event is some steps at each processor, so two tasks that stay there are served in proportion
pub mod EventLemmas
pub mod PassingLemmas
pub mod SeenLemmas
pub mod WorldSoundLemmas
pub mod WorldNewLemmas
pub mod WorldDueLemmas
pub mod WorldLemmas
