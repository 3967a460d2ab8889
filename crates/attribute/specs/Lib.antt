pub mod Attribute
pub mod Outcome
