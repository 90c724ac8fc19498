pub mod Extents
pub mod Leads
pub mod Numbers
pub mod Operands
