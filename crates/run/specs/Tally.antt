-- The tally of a run (01 "Run orders"): steps made in this run, and budget left.
use Rattle.std.specs.Prelude.{◌+◌, ◌-◌, ℕ, Bool, true, eqb}
use Rattle.run.specs.declared.Outcome.{Outcome}
use Rattle.run.specs.declared.Outcome.TheVariants.{Finished, NoRoom, Over, Refused, Spent}
use Rattle.run.specs.declared.Tally.{Tally}

-- At the start no step is made and the whole budget is left.
abbrev pub started : ℕ → Tally
started budget = record { steps = 0; left = budget }

-- A step is one more made and one less left.
abbrev pub advanced : Tally → Tally
advanced t = record { steps = t.steps + 1; left = t.left - 1 }

-- No budget is left.
abbrev pub is_spent : Tally → Bool
is_spent t = eqb t.left 0

-- A run ends where its state reads finished, over or no room. Where it reads spent a further step is possible: there it ends
-- only with no budget left.
unfoldable pub ends_with : Outcome → Tally → Bool
ends_with Finished t = true
ends_with Over t = true
ends_with NoRoom t = true
ends_with Spent t = is_spent t
ends_with Refused t = true
