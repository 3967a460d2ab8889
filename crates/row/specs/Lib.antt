pub mod Row
pub mod Tag
pub mod Tagged
pub mod Diagnostic
pub mod Words
