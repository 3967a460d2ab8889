pub mod Places
pub mod SetOfNameLaws
pub mod SheetExamples
pub mod TextLaws
pub mod CustomizingLaws
pub mod MetaLaws
pub mod SheetLaws
pub mod OutcomeLaws
