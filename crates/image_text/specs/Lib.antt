pub mod Items
pub mod Assembled
pub mod Inside
pub mod Lines
pub mod Reads
pub mod Judged
