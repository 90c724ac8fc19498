mod Copies
mod Pieces
pub mod Windows
pub mod WorkLaws
