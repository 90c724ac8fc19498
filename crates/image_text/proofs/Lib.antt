pub mod PutSteps
pub mod LineLaws
pub mod NameLines
mod LineReads
mod StatedLaws
mod BodyLaws
mod ReadLaws
pub mod CountLaws
pub mod JudgeTexts
pub mod AssembleLaws
