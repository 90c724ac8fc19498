mod ListLaws
pub mod OneReading
mod PieceLaws
mod ReadLaws
pub mod StopLaws
mod TextLaws
