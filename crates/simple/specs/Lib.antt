pub mod Simple
pub mod internal
