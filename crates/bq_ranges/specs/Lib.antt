pub mod Within
pub mod Tight
pub mod Signed
