pub mod BlocksLaws
pub mod FactorsLaws
pub mod ShiftedLaws
pub mod JoinedLaws
