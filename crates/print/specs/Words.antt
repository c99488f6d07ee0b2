-- The words and the two kinds of line (01 "Bench loads", last part), in ASCII, with the end of line.
use Rattle.std.specs.Prelude.{ℕ, ◌++◌, List, [], ◌∷◌}
use Rattle.rules.specs.Run.{Outcome, is_finished, is_over, no_room, refused, spent}
use Rattle.run.specs.RunAnswer.{RunAnswer}
use Rattle.print.specs.Decimal.{decimal}

-- `finished`, `over`, `noroom`, `spent`, `refused`.
unfoldable pub outcome_word : Outcome → List ℕ
outcome_word is_finished = 102 ∷ 105 ∷ 110 ∷ 105 ∷ 115 ∷ 104 ∷ 101 ∷ 100 ∷ []
outcome_word is_over = 111 ∷ 118 ∷ 101 ∷ 114 ∷ []
outcome_word no_room = 110 ∷ 111 ∷ 114 ∷ 111 ∷ 111 ∷ 109 ∷ []
outcome_word spent = 115 ∷ 112 ∷ 101 ∷ 110 ∷ 116 ∷ []
outcome_word refused = 114 ∷ 101 ∷ 102 ∷ 117 ∷ 115 ∷ 101 ∷ 100 ∷ []

-- A space, and then the number.
unfoldable pub spaced : ℕ → List ℕ
spaced n = 32 ∷ decimal n

-- The values in a row, each behind a space.
unfoldable pub spaced_all : List ℕ → List ℕ
spaced_all [] = []
spaced_all (v ∷ vs) = spaced v ++ spaced_all vs

-- The stepper's outcome and steps, the reducer's, the stepper's store.
unfoldable pub ran_line : RunAnswer → RunAnswer → List ℕ → List ℕ
ran_line s r store =
    outcome_word s.outcome ++ (spaced s.steps ++ (32 ∷ (outcome_word r.outcome
    ++ (spaced r.steps ++ (spaced_all store ++ (10 ∷ []))))))

-- The word and the number.
unfoldable pub refused_line : ℕ → List ℕ
refused_line n = outcome_word refused ++ (spaced n ++ (10 ∷ []))
