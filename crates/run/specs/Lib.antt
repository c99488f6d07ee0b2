pub mod RunAnswer
pub mod RanFrom
pub mod Tally
pub mod Represents
pub mod MinusOne
