pub mod RowLaws
pub mod HeadLaws
pub mod PixelLaws
