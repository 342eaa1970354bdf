pub mod Bytes
pub mod Kept
pub mod Keywords
pub mod Lines
