pub mod Obligations
pub mod Transfers
pub mod Ready
pub mod After
pub mod Sides
