-- WHAT AN ACCEPTED RUN OF THE STEPPER ANSWERS AND LEAVES (demand 2).
use Rattle.std.specs.Prelude.{ℕ, ◌≡◌, ◌↔◌, length}
use Rattle.record.specs.Answers.{padded}
use Rattle.record.specs.declared.Header.{Header}
use Rattle.record.specs.Header.{ok_of}
use Rattle.record.specs.Holding.{ProgramIn}
use Rattle.rules.specs.Run.{is_finished}
use Rattle.rules.specs.Sound.{SoundConfig}
use Rattle.rules.specs.Step.{step}
use Rattle.rules.specs.Syntax.{Config, empty}
use Rattle.run.specs.RanFrom.{RanFrom}
use Rattle.stepping.specs.State.{config_bytes}
use Rattle.stepper.specs.RunStepper.{StepperCall}

-- From the configuration c₀ with this header, in a buffer of `room` bytes.
pub record StepperRan (h : Header) (c₀ : Config) (room budget : ℕ) (r : StepperCall) : Type 0 where
  -- the configuration left
  pub c : Config
  pub ran : RanFrom (step (ok_of h)) (config_bytes h) c₀ room budget r.answer c
  -- it stands in the buffer with zeros behind it, and in the store
  pub bytes : r.buf ≡ padded room (config_bytes h c)
  pub values : r.store ≡ c.store
  -- finished: the outermost block is empty
  pub finishes : (r.answer.outcome ≡ is_finished) ↔ (c.block ≡ empty)
  -- it passes the checks again, in a buffer of the same length
  pub again : ProgramIn h c.block r.buf r.answer.used
  pub sound : SoundConfig (ok_of h) h.k c
  pub same_room : length r.buf ≡ room
