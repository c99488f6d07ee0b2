pub mod State
pub mod Perform
