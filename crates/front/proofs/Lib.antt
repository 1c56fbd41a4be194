pub mod EachLaws
pub mod FrontLaws
