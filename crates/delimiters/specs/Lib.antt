pub mod Count
pub mod Delimit
pub mod Noted
pub mod Stored
pub mod Pairs
pub mod Divide
pub mod Outcome
