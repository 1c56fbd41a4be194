-- Definitions that only private contracts cite.
pub mod Facts
pub mod Limits
pub mod Primes
