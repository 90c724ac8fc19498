pub mod PutsLaws
pub mod GatherLaws
pub mod NameTexts
pub mod RecordTexts
pub mod DiskFacts
pub mod SaveLaws
