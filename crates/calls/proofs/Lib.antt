pub mod Demand3Laws
pub mod ReplayLaws
pub mod OneLaws
pub mod FillingLaws
pub mod CorrectedLaws
