pub mod Roots
pub mod internal
