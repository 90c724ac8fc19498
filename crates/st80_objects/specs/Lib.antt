pub mod Rising
pub mod Images
pub mod Inside
pub mod Sentences
pub mod Labelled
