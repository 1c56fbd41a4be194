pub mod Value
pub mod Read
pub mod internal
