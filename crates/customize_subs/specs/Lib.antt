pub mod Text
pub mod Customizing
pub mod Sheet
pub mod Outcome
pub mod Steps
