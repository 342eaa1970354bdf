pub mod Calls
pub mod Loading
pub mod Placing
pub mod Waking
