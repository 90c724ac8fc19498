pub mod Bounded
pub mod Limits
pub mod Pins
pub mod Row
pub mod Sizes
