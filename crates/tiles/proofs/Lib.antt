pub mod TileLaws
pub mod WeightsLaws
