pub mod TurnLaws
pub mod WholeLaws
pub mod OriginLaws
