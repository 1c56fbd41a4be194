-- Definitions that only private contracts cite.
pub mod Scan
pub mod Survey
