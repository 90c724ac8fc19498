pub mod Command
pub mod Files
pub mod FilesFor
pub mod FilesRead
pub mod Kept
pub mod Status
pub mod Trace
pub mod Words
