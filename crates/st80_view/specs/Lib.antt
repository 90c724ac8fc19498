pub mod Viewed
pub mod Names
pub mod Homes
pub mod Stacks
pub mod Findings
