pub mod Sights
pub mod Values
pub mod Irs
pub mod RequotedLaws
