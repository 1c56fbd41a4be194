pub mod SeriesLaws
pub mod KnownLaws
pub mod CheckLaws
pub mod QuotientLaws
pub mod DividedLaws
