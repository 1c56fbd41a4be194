pub mod Known
pub mod Series
pub mod Quotient
pub mod internal
