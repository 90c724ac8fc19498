pub mod Sums
pub mod Png
pub mod Pictures
pub mod Causes
pub mod Refusals
