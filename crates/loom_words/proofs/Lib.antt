pub mod FileLaws
pub mod FileRows
pub mod KeptRows
pub mod Lines
pub mod Numbers
pub mod Rows
