pub mod FactorLaws
pub mod FactorsToLaws
