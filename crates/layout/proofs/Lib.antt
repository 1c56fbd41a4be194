pub mod LengthsLaws
pub mod PlacesLaws
pub mod RegionsLaws
pub mod WritingLaws
