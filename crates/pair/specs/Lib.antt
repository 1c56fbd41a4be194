pub mod Pair
pub mod Test
pub mod Paired
pub mod internal
