pub mod Laws
pub mod Examples
pub mod SymbolKinds
pub mod Outcomes
pub mod Whole
pub mod Runs
pub mod MarkLaws
pub mod TagLaws
