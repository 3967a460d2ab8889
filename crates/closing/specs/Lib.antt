pub mod Closing
pub mod Closes
pub mod Link
