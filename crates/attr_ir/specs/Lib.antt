pub mod Look
pub mod Ir
pub mod Places
