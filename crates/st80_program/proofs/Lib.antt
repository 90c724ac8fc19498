pub mod ProgramLaws
pub mod Selectors
