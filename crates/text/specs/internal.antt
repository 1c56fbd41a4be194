-- Definitions that only private contracts cite.
pub mod Putting
pub mod Rooms
