pub mod Laws
pub mod Pulls
pub mod Reasons
pub mod Rivals
pub mod Rows
pub mod Words
