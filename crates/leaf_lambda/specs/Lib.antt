pub mod Parts
pub mod Whole
pub mod Records
pub mod Making
pub mod Turn
