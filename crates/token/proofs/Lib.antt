pub mod KindLaws
pub mod LineLaws
pub mod Checks
pub mod Matched
