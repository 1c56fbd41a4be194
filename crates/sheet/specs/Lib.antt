pub mod Sheet
pub mod Test
pub mod Reading
pub mod internal
