pub mod Found
pub mod Path
