pub mod Steady
pub mod Figures
pub mod Longest
pub mod Forecast
pub mod ForecastMeaning
pub mod Rows
