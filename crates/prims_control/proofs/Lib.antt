pub mod FoundLaws
pub mod StepLaws
pub mod TableLaws
