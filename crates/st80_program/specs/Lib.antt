pub mod Programs
pub mod Understood
