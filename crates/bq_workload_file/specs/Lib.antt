pub mod Tables
pub mod Keys
pub mod Fields
pub mod Lengths
pub mod Actions
pub mod Positions
pub mod Workloads
