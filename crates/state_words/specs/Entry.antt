-- Edits of the words of a state, and the place in its innermost block (02 C-14). An entry behind n others has the six words
-- from 3 + 6 n on.
use Rattle.std.specs.Prelude.{◌*◌, ◌+◌, ◌-◌, suc, zero, ℕ, Bool, false, true, List, eqb, get_or, set}
use Rattle.counting.specs.Frames.{place_word}
use Rattle.state_words.specs.declared.EntryWords.{EntryWords}

-- The six words of the entry behind n.
abbrev pub entry_at : List ℕ → ℕ → EntryWords
entry_at l n = record {
  what = get_or l (3 + 6 * n) 0;
  at = get_or l (3 + 6 * n + 1) 0;
  top = get_or l (3 + 6 * n + 2) 0;
  reached = get_or l (3 + 6 * n + 3) 0;
  running = get_or l (3 + 6 * n + 4) 0;
  progress = get_or l (3 + 6 * n + 5) 0;
}

-- Those of a block that is open at a place, at the place p inside.
abbrev pub block_entry : ℕ → ℕ → EntryWords
block_entry at p = record { what = 1; at = at; top = 0; reached = 0; running = 0; progress = p }

-- Those of a loop that comes into play at a place with so many turns: it unrolls, and with none it runs.
unfoldable pub entry_in_play : ℕ → ℕ → EntryWords
entry_in_play at zero = record { what = 2; at = at; top = 0; reached = 0; running = 1; progress = 0 }
entry_in_play at (suc turns) = record { what = 2; at = at; top = suc turns; reached = turns; running = 0; progress = 0 }

-- The words l with these six from word i on.
unfoldable pub entry_put : List ℕ → ℕ → ℕ → ℕ → ℕ → ℕ → ℕ → ℕ → List ℕ
entry_put l i what at top reached running progress =
    set (set (set (set (set (set l i what) (i + 1) at) (i + 2) top) (i + 3) reached) (i + 4) running) (i + 5) progress

-- An entry more behind n.
unfoldable pub entry_pushed : List ℕ → ℕ → ℕ → ℕ → ℕ → ℕ → ℕ → ℕ → List ℕ
entry_pushed l n what at top reached running progress = entry_put l (3 + 6 * n) what at top reached running progress

-- The same, of an entry.
abbrev pub pushed : List ℕ → ℕ → EntryWords → List ℕ
pushed l n e = entry_pushed l n e.what e.at e.top e.reached e.running e.progress

-- The last of n entries is that of a loop.
unfoldable pub last_loop : List ℕ → ℕ → Bool
last_loop ws zero = false
last_loop ws (suc n) = eqb (get_or ws (3 + 6 * n) 0) 2

-- How such a one holds a place, and which place it holds: a loop's entry has it plus 2.
unfoldable pub mark_by : Bool → ℕ → ℕ
mark_by true p = p + 2
mark_by false p = p

unfoldable pub unmark_by : Bool → ℕ → ℕ
unmark_by true w = w - 2
unmark_by false w = w

-- The place in the innermost block, of n entries.
unfoldable pub place_in : List ℕ → ℕ → ℕ
place_in ws n = unmark_by (last_loop ws n) (get_or ws (place_word n) 0)

-- The words with p for that place.
unfoldable pub place_put : List ℕ → ℕ → ℕ → List ℕ
place_put ws n p = set ws (place_word n) (mark_by (last_loop ws n) p)

-- The entry behind n taken away, and p for the place where it stood.
unfoldable pub entry_popped : List ℕ → ℕ → ℕ → List ℕ
entry_popped l n p = place_put (entry_put l (3 + 6 * n) 0 0 0 0 0 0) n p
