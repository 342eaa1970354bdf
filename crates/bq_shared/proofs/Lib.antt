-- Counters and accounts: each step on a counter keeps the sums
pub mod SameCallLemmas
pub mod KeepingLemmas
pub mod AccountLemmas
-- The start: seats, and each part once
pub mod SeatLemmas
pub mod OpenedLemmas
-- Each event's share in its parts is a move of the history: what worlds have, what a look tells, and what each commit asks
pub mod ReachedLemmas
pub mod LookLemmas
pub mod ShapeLemmas
pub mod WantLemmas
pub mod LoadLemmas
pub mod CallStepLemmas
pub mod PullStepLemmas
pub mod WakeLemmas
-- What may cross threads
pub mod SendLemmas
