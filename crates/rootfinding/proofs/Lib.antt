pub mod RootsLaws
pub mod ScanLaws
pub mod FoundLaws
pub mod SearchLaws
