pub mod Kind
pub mod KindNumber
pub mod Line
pub mod Lent
pub mod Checked
pub mod Quotes
