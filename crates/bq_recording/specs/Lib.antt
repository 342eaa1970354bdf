pub mod AllParts
pub mod Queues
