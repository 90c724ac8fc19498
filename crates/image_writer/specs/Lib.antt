pub mod Saved
pub mod Puts
pub mod Inside
