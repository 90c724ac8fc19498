pub mod Directory
pub mod Inside
pub mod Marks
pub mod Pieces
pub mod Slots
pub mod Table
pub mod Work
