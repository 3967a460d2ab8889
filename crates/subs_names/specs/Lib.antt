pub mod Names
pub mod KindNames
