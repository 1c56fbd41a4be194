pub mod JobLaws
pub mod LengthLaws
