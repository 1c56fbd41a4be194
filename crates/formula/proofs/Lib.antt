pub mod CompleteLaws
pub mod SoundLaws
pub mod PlaceLaws
pub mod SurveyLaws
pub mod DepthLaws
pub mod FoundLaws
