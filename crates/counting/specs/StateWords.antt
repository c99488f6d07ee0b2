-- A state as 189 words (02 C-14): the place in the outermost block, whether a sum waits, the sum, and six words for each of
-- 31 entries; the list of entries ends before the first that is held open as 0.
use Rattle.std.specs.Prelude.{◌*◌, ◌+◌, ◌-◌, suc, zero, ℕ, ◌++◌, List, [], ◌∷◌, get_or, length, replicate}
use Rattle.rules.specs.Syntax.{Block}
use Rattle.counting.specs.Counting.{State}
use Rattle.counting.specs.Held.{Held, Numbers, numbers}
use Rattle.counting.specs.ReadState.{Read, read_numbers}

-- The words of entries, one after the other.
unfoldable pub held_words : List Held → List ℕ
held_words [] = []
held_words (h ∷ hs) = h.what ∷ h.at ∷ h.top ∷ h.reached ∷ h.running ∷ h.progress ∷ held_words hs

-- The words of a state's numbers.
unfoldable pub packed : Numbers → List ℕ
packed w = w.place ∷ w.waits ∷ w.sum ∷ (held_words w.held ++ replicate (6 * (31 - length w.held)) 0)

-- The entry whose words stand from word i on.
unfoldable pub held_at : List ℕ → ℕ → Held
held_at ws i = record {
  what = get_or ws i 0;
  at = get_or ws (i + 1) 0;
  top = get_or ws (i + 2) 0;
  reached = get_or ws (i + 3) 0;
  running = get_or ws (i + 4) 0;
  progress = get_or ws (i + 5) 0;
}

-- Entries up to the first that is held open as 0.
unfoldable pub unless_none : ℕ → Held → List Held → List Held
unless_none zero h hs = []
unless_none (suc what) h hs = h ∷ hs

-- The entries whose words stand from word i on, n at most.
unfoldable pub held_from : List ℕ → ℕ → ℕ → List Held
held_from ws i zero = []
held_from ws i (suc n) = unless_none (get_or ws i 0) (held_at ws i) (held_from ws (i + 6) n)

-- The numbers that words hold.
unfoldable pub unpacked : List ℕ → Numbers
unpacked ws = record { place = get_or ws 0 0; waits = get_or ws 1 0; sum = get_or ws 2 0; held = held_from ws 3 31 }

-- The state of the program P that words hold, or what is wrong with them.
unfoldable pub decode_state : Block → List ℕ → Read State
decode_state P ws = read_numbers (unpacked ws) P 0

-- The words of a state of the program P.
unfoldable pub encode_state : Block → State → List ℕ
encode_state P s = packed (numbers s P 0)
