pub mod Answers
pub mod Installed
pub mod Laws
pub mod Standing
