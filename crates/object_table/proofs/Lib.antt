pub mod ShortLaws
pub mod VacantLaws
pub mod NoteLaws
pub mod UsedLaws
mod CountLaws
