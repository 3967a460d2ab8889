pub mod Anchor
pub mod Numbers
pub mod Anchored
