pub mod Numbers
pub mod Sections
pub mod Symbols
pub mod Relocations
pub mod Objects
pub mod Faults
