pub mod Shifts
pub mod Summaries
pub mod Ticks
