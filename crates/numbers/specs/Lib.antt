pub mod Words
pub mod Refusals
pub mod Divisor
pub mod Limits
pub mod One
pub mod internal
