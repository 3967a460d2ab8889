pub mod RowsLaws
pub mod Lists
pub mod GroupRows
pub mod Shorts
pub mod Outcomes
pub mod TagLaws
