pub mod Sums
pub mod Prime
pub mod internal
