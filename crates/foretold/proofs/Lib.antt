pub mod OnTheWayLaws
pub mod RoomLaws
pub mod ForetoldLaws
pub mod ForetoldExamplesLaws
pub mod ForecastNumbersLaws
