-- The numbers of a state whose outer entries stay as they are: what a step in place changes, and what not (02 C-14).
use Rattle.std.specs.Prelude.{◌*◌, ◌+◌, suc, zero, ℕ, List, [], ◌∷◌}
use Rattle.rules.specs.Syntax.{Block}
use Rattle.counting.specs.Entries.{Entry, open_block, open_turn}
use Rattle.counting.specs.Held.{Held, body_mark, held_block, held_loop, left_at_block, left_at_loop}
use Rattle.counting.specs.Place.{body_at, inside_at, place_of}

-- The block that an entry holds open.
unfoldable pub entry_block : Entry → Block
entry_block (open_block q r) = q
entry_block (open_turn x c d q r) = q

-- Where the record of an entry stands in the block b whose first command stands at a.
unfoldable pub entry_at : Entry → Block → ℕ → ℕ
entry_at (open_block q r) b a = place_of b a (left_at_block q r)
entry_at (open_turn x c d q r) b a = place_of b a (left_at_loop q r)

-- Where the first command inside an entry stands, by where its record does.
unfoldable pub entry_inside : Entry → ℕ → ℕ
entry_inside (open_block q r) p = inside_at p
entry_inside (open_turn x c d q r) p = body_at p

-- How an entry holds the place i inside.
unfoldable pub entry_mark : Entry → ℕ → ℕ
entry_mark (open_block q r) i = i
entry_mark (open_turn x c d q r) i = body_mark i

-- The numbers of an entry at p, with this progress.
unfoldable pub entry_held : Entry → ℕ → ℕ → Held
entry_held (open_block q r) p progress = held_block p progress
entry_held (open_turn x c d q r) p progress = held_loop p c d 1 progress

-- The innermost block that a list of entries holds open.
unfoldable pub inner_block : List Entry → Block → Block
inner_block [] b = b
inner_block (e ∷ es) b = inner_block es (entry_block e)

-- Where its first command stands.
unfoldable pub inner_at : List Entry → Block → ℕ → ℕ
inner_at [] b a = a
inner_at (e ∷ es) b a = inner_at es (entry_block e) (entry_inside e (entry_at e b a))

-- The place in the block b itself, where i is the place in the innermost.
unfoldable pub outer_place : List Entry → Block → ℕ → ℕ → ℕ
outer_place [] b a i = i
outer_place (e ∷ es) b a i = entry_at e b a

-- The numbers of all the entries, where i is the place in the innermost.
unfoldable pub frames : List Entry → Block → ℕ → ℕ → List Held
frames [] b a i = []
frames (e ∷ es) b a i =
    let p = entry_at e b a in
    let m = entry_inside e p in
    entry_held e p (entry_mark e (outer_place es (entry_block e) m i)) ∷ frames es (entry_block e) m i

-- The word that holds the place in the innermost block, where n entries hold a place.
unfoldable pub place_word : ℕ → ℕ
place_word zero = 0
place_word (suc n) = 3 + 6 * n + 5

-- What it holds where the place is i: as the last entry holds it, or i where there is none.
unfoldable pub mark_from : (ℕ → ℕ) → List Entry → ℕ → ℕ
mark_from f [] i = f i
mark_from f (e ∷ es) i = mark_from (entry_mark e) es i

unfoldable pub place_mark : List Entry → ℕ → ℕ
place_mark es i = mark_from (λ j. j) es i
