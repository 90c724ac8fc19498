pub mod Run
pub mod Sights
pub mod States
