pub mod ExtendingLaws
pub mod ExtendTotalLaws
