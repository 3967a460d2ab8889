pub mod KeptLaws
pub mod PlacesLaws
pub mod NamesLaws
pub mod Ranges
pub mod Quotes
pub mod Finds
pub mod Naming
pub mod RequotedLaws
