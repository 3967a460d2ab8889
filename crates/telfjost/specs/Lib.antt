pub mod Outcome
pub mod ByNumber
