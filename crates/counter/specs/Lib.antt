pub mod Represents
pub mod CheckRows
