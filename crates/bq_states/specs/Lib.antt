pub mod Relations
pub mod Copies
pub mod Parts
pub mod AbstractStates
pub mod Certainty
pub mod Learnt
