pub mod PowersLaws
pub mod FindingLaws
pub mod LineLaws
