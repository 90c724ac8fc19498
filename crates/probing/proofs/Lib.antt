pub mod ClosingLaws
pub mod HomeLaws
pub mod MapLaws
pub mod TableLaws
