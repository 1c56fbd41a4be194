pub mod WordsLaws
pub mod ListedLaws
pub mod EnumerationLaws
pub mod DivisorLaws
pub mod PrimesLaws
pub mod RefusalsLaws
pub mod TestsLaws
pub mod OneLaws
