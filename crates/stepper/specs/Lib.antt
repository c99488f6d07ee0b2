pub mod RunStepper
pub mod StepperRan
pub mod Running
