pub mod ListRowsLaws
pub mod Attributes
pub mod TagLaws
