pub mod LevelsLaws
pub mod TellsLaws
