pub mod Limits
pub mod Job
pub mod internal
