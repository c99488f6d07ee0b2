pub mod RunReducer
pub mod ReducerRan
pub mod Running
pub mod Represents
