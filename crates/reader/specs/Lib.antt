pub mod Head
pub mod Readers
pub mod SplitHead
