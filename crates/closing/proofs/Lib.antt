pub mod Examples
pub mod Laws
pub mod ClosingLaws
pub mod LinkLaws
