-- The words of a state as it is handed out, part by part (02 C-14): what the code of each part writes.
use Rattle.std.specs.Prelude.{ℕ, Bool, false, true, List, eqb, get_or, set}
use Rattle.counting.specs.Held.{Held}
use Rattle.state_words.specs.declared.EntryWords.{EntryWords}

-- The mark and the sum, by whether none waits: 0 for the sum, or 1 for the mark.
unfoldable pub head_by : Bool → List ℕ → List ℕ
head_by true ws = set ws 2 0
head_by false ws = set ws 1 1

unfoldable pub head_canonical : List ℕ → List ℕ
head_canonical ws = head_by (eqb (get_or ws 1 0) 0) ws

-- The entry of these words.
abbrev pub held_of : EntryWords → Held
held_of e = record { what = e.what; at = e.at; top = e.top; reached = e.reached; running = e.running; progress = e.progress }
