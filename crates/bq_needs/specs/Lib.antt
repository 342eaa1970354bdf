pub mod Accesses
pub mod Arguments
pub mod Needs
pub mod Operands
pub mod DescribedWords
pub mod Texts
pub mod Words
