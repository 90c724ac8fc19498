pub mod Firm
pub mod Fronts
