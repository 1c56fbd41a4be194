pub mod RowsLaws
pub mod CheckLaws
pub mod MulLaws
pub mod ShiftLaws
pub mod MonicLaws
pub mod RowsBelowLaws
