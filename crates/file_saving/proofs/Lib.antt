pub mod PutLaws
pub mod SavingLaws
