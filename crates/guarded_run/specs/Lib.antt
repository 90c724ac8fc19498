pub mod Course
pub mod Legs
