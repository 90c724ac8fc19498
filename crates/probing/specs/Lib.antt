pub mod Homes
pub mod Search
pub mod Table
