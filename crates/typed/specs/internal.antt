-- Definitions that only private contracts cite.
pub mod Line
pub mod Writing
