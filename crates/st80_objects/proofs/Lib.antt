pub mod Places
pub mod ReadLaws
