pub mod Labels
pub mod Carry
pub mod Parts
pub mod Trees
pub mod Within
pub mod Literals
