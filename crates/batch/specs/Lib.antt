pub mod RunBatch
pub mod Running
pub mod BatchMeaning
pub mod Represents
