-- Definitions that only private contracts cite.
pub mod Stages
pub mod Stored
pub mod Content
pub mod Shape
