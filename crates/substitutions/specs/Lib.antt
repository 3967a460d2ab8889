pub mod Kinds
pub mod Held
pub mod HeldPlaces
pub mod Moves
pub mod Order
pub mod Starting
pub mod Loops
