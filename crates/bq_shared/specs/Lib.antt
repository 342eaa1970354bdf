pub mod Calls
pub mod Listed
pub mod Sums
pub mod Parts
pub mod Opened
pub mod Prepared
pub mod PackedReplies
pub mod Events
