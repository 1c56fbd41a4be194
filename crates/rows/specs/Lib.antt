pub mod Rows
pub mod internal
