-- Definitions that only private contracts cite.
pub mod Ring
pub mod Series
pub mod Poly
pub mod Fp
