pub mod ImageLaws
pub mod EndLaws
pub mod KeptLaws
