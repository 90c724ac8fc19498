pub mod Notation
pub mod Messages
pub mod Table
pub mod Generated
pub mod Inside
