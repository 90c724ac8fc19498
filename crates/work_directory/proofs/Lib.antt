pub mod CauseLaws
mod ChangeLaws
pub mod ContentsLaws
pub mod EntryLaws
mod MarkLaws
mod PieceLaws
mod SlotLaws
mod UnderWay
