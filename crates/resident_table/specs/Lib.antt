pub mod Inside
pub mod Resident
