pub mod KindsLaws
pub mod HeldLaws
pub mod PlacesLaws
pub mod MovesLaws
pub mod AnswersLaws
pub mod HeldPlacesLaws
pub mod OrderLaws
pub mod StartingLaws
