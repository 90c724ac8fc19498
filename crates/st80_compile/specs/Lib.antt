pub mod Frame
pub mod Bytes
pub mod Steps
pub mod Compiled
