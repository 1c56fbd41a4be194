-- Definitions that only private contracts cite.
pub mod Tile
pub mod Weights
