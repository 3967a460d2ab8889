pub mod Examples
pub mod CountLaws
pub mod StepLaws
pub mod CommaLaws
pub mod PairLaws
pub mod DivideLaws
pub mod Turns
