pub mod Files
pub mod Laws
pub mod Read
pub mod Relations
