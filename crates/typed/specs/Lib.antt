pub mod Limits
pub mod Order
pub mod Key
pub mod internal
