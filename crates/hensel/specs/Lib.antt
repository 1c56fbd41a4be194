pub mod Factors
pub mod internal
