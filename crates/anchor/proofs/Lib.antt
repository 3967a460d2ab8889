pub mod Laws
pub mod Places
pub mod AnchoredLaws
pub mod OneAnswerLaws
pub mod Examples
