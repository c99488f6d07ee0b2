pub mod RunReducerLaws
pub mod RunningLaws
pub mod CallLaws
