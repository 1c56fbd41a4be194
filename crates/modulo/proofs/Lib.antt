pub mod TurnLaws
pub mod ProductLaws
pub mod SplitLaws
