pub mod Packed
pub mod Factor
