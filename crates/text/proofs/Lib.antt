pub mod DecimalLaws
pub mod TextLaws
pub mod SignedTextLaws
pub mod SheetTextLaws
