pub mod Parts
pub mod PartSpelling
pub mod Grammar
pub mod Inside
pub mod Spelling
pub mod Breaks
pub mod Texts
