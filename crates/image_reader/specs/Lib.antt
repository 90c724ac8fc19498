pub mod Window
pub mod Names
pub mod Frames
pub mod Loaded
pub mod Inside
pub mod Tally
pub mod Judged
