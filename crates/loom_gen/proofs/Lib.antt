pub mod RowLaws
pub mod NameLaws
pub mod TestLaws
pub mod TableLaws
pub mod NumberLaws
pub mod ImageLaws
pub mod BuildLaws
