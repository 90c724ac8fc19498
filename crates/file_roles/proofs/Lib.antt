pub mod OpenLaws
pub mod SavedLaws
