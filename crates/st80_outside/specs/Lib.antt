pub mod Right
pub mod Ran
