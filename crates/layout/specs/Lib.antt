pub mod Layout
pub mod internal
