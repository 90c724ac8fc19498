pub mod Raw
pub mod Buffer
pub mod Inside
pub mod Filling
pub mod Lending
pub mod Objects
