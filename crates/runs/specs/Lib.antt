pub mod Run
pub mod Requoted
pub mod Names
pub mod Places
pub mod Kept
pub mod Stepping
