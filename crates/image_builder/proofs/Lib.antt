pub mod Firsts
pub mod Images
pub mod Kept
pub mod Recs
