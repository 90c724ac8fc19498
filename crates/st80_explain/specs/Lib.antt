pub mod Sentences
pub mod Spots
pub mod Kinds
