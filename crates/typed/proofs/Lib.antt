pub mod LineLaws
pub mod OrderLaws
pub mod KeyLaws
