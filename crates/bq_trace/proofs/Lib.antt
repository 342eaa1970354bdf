-- What is written: numbers, and queues task by task
pub mod NumberTextLemmas
pub mod QueueWalkLemmas
pub mod ShowLemmas
-- What a sink takes, and what comes of lines, one after another
pub mod LineLemmas
pub mod TakingLemmas
pub mod WakeLemmas
pub mod StandingLemmas
-- The texts of what comes of lines answer them
pub mod StoryTextLemmas
pub mod SessionLemmas
-- Pieces, and a session as a whole, are answered as the whole input is
pub mod ReplayLemmas
pub mod WholeSessionLemmas
