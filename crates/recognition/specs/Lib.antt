pub mod Scan
pub mod Recognition
pub mod Terms
