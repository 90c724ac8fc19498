pub mod Parts
pub mod At
pub mod Giving
pub mod Faults
pub mod Shorts
pub mod Effects
