pub mod Counts
pub mod internal
