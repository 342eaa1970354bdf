-- What each move of a schedule leaves as it was
pub mod TestLemmas
pub mod FrameLemmas
-- Clocks, and who runs: the schedule and each world show those of the history
pub mod ClockLemmas
pub mod WorldLemmas
-- Slices: each is the one that its event ends; they add up, stand apart and fill the observed time
pub mod SliceTimeLemmas
pub mod SumLemmas
pub mod ApartLemmas
pub mod ObservedLemmas
pub mod WindowLemmas
-- Runs, starts and stops: runs are what slices make, and each start ends with one stop
pub mod RunLemmas
pub mod SwitchLemmas
pub mod PairLemmas
-- How long tasks wait: latencies of wakes, their percentiles, and the sum of all waits
pub mod WakeLemmas
pub mod PercentileLemmas
pub mod CountLemmas
pub mod WaitLemmas
-- Fair times: what a task keeps as it leaves and comes, and what they all add up to
pub mod PurseLemmas
pub mod LeavingLemmas
pub mod ComingLemmas
pub mod TotalLemmas
