pub mod Entries
pub mod Flags
pub mod Table
pub mod Inside
