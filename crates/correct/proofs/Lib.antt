pub mod CorrectingLaws
pub mod CorrectTotalLaws
