pub mod Inside
pub mod Pictures
pub mod States
