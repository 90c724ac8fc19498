pub mod BlockLaws
pub mod CountLaws
mod Examples
pub mod FreeLaws
pub mod SpaceLaws
