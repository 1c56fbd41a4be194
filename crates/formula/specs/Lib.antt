pub mod Formula
pub mod Grammar
pub mod Limits
pub mod internal
