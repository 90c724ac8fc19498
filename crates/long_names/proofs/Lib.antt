pub mod ThinLemmas
pub mod KeptLaws
pub mod AccessLaws
pub mod CycleLaws
pub mod CountLaws
pub mod FreeLaws
mod Examples
