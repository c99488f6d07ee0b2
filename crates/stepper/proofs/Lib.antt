pub mod RunStepperLaws
pub mod RunningLaws
pub mod CallLaws
