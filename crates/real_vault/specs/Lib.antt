pub mod Real
pub mod Gates
