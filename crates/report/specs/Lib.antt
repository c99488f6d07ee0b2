pub mod Line
pub mod Reads
