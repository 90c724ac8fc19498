pub mod Open
pub mod Share
