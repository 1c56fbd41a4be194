pub mod SubsetsLaws
pub mod CheckLaws
pub mod PolynomialsLaws
pub mod CountsLaws
pub mod CountingLaws
