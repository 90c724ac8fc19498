pub mod Kinds
pub mod Stands
pub mod Written
pub mod Grammar
pub mod Nests
