-- Definitions that only private contracts cite.
pub mod Opening
pub mod Writing
