pub mod Theorems
pub mod Starred
