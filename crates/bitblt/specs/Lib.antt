pub mod Transfers
pub mod Clip
pub mod Blits
pub mod Asking
pub mod Shapes
pub mod Plans
