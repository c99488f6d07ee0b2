-- The code's answer as the definitions have it.
use Rattle.std.specs.Prelude.{ℕ, Result, Ok, Err}
use Rattle.forecast.specs.Forecast as forecast
use Rattle.record.specs.declared.refusal.Refusal.{Refusal}
use Rattle.record.specs.Refusal.{refusal_number}
use Rattle.forecaster.specs.declared.Figures.{Figures}
use Rattle.forecaster.specs.declared.Forecast.{Forecast}

-- The number and the three figures.
abbrev pub as_forecast : Forecast → forecast.Forecast
as_forecast r = record { number = r.number; steps = r.steps; program_bytes = r.program_bytes; term_bytes = r.term_bytes }

-- A refusal's number, and 0 for each figure.
abbrev pub refused_with : ℕ → forecast.Forecast
refused_with number = record { number = number; steps = 0; program_bytes = 0; term_bytes = 0 }

-- The three figures, or a refusal.
abbrev pub forecast_of : Result Figures Refusal → forecast.Forecast
forecast_of (Ok f) = record { number = 0; steps = f.steps; program_bytes = f.program_bytes; term_bytes = f.term_bytes }
forecast_of (Err r) = refused_with (refusal_number r)
