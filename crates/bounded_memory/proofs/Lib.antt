pub mod SizeLaws
pub mod BoundedLaws
pub mod HeapLaws
pub mod CallLaws
pub mod MemoryLaws
pub mod RowLaws
