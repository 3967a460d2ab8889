pub mod Laws
pub mod ReadAsListLaws
pub mod OneAnswerLaws
pub mod RefusalLaws
pub mod BlockLaws
pub mod Readings
pub mod LimitLaws
pub mod TagLaws
