pub mod Agrees
pub mod Steps
pub mod Progress
pub mod Laws
pub mod Positions
pub mod Snapshots
