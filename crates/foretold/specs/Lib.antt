pub mod Foretold
pub mod ForetoldExamples
pub mod ForecastNumbers
