pub mod Rules
pub mod Sizes
pub mod Builder
pub mod Parts
