-- The refusals by their numbers (01 "Where an order stops"; 02). What a row asks stands in `Rows` and with the calls, the order in `Table`.
use Rattle.std.specs.Prelude.{ℕ, Result, Ok, Err}
use Rattle.record.specs.declared.refusal.Refusal.{Refusal}
use Rattle.record.specs.declared.refusal.Refusal.TheVariants as it

-- The number of a refusal.
abbrev pub refusal_number : Refusal → ℕ
refusal_number it.BadBuffer = 1
refusal_number it.BadHeader = 2
refusal_number it.BadK = 3
refusal_number it.Malformed = 4
refusal_number it.BadVariable = 5
refusal_number it.BadStore = 6
refusal_number it.FreeVariable = 7
refusal_number it.Unfinished = 8
refusal_number it.NoProgram = 9
refusal_number it.OutputTooShort = 10
refusal_number it.BadRule = 11
refusal_number it.TooDeep = 12
refusal_number it.BadState = 13
refusal_number it.BadBatch = 14
refusal_number it.LiteralAboveCeiling = 15
refusal_number it.ValueAboveCeiling = 16
refusal_number it.SmallCeiling = 17
refusal_number it.BoundAssigned = 18
refusal_number it.FigureTooLarge = 19

-- The number that an answer has: 0 where nothing was refused.
abbrev pub answer_number : {T : Type 0} → Result T Refusal → ℕ
answer_number (Ok x) = 0
answer_number (Err r) = refusal_number r
