pub mod ChunkLaws
pub mod EndLaws
