pub mod Ranged
pub mod Marks
pub mod Path
pub mod ValuesLeft
