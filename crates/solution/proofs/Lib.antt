pub mod DigitsLaws
pub mod TableLaws
pub mod StepLaws
pub mod NodeLaws
