pub mod PairLaws
pub mod PairWordsLaws
pub mod LiftLaws
pub mod TestLaws
pub mod AnswerLaws
pub mod OneLaws
