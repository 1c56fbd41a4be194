pub mod Listing
pub mod internal
