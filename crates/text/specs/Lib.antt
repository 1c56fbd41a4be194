pub mod Limits
pub mod Decimal
pub mod Text
pub mod internal
