-- Definitions that only private contracts cite.
pub mod Places
pub mod Values
pub mod Parts
