pub mod Disk
pub mod Calls
pub mod Inside
pub mod Names
pub mod Places
pub mod Function
pub mod Stays
