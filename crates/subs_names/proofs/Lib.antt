pub mod NamesLaws
pub mod KindNamesLaws
