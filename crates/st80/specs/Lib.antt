pub mod Ends
pub mod Rows
pub mod Paths
pub mod Runs
pub mod Building
