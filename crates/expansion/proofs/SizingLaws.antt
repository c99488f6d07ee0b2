-- The measuring walk: what was counted and what is left make up the whole.
use Prim.Native.Nat.{◌*◌, ◌+◌, ◌-◌, ℕ}
use mathlib.Core.Path.{◌≡◌}
use mathlib.Core.List.{List}
use lib.ListN.{get_or}
use native.Mathlib.Omega.{arith}
use Rattle.rules.specs.Syntax.{Block}
use Rattle.counting.specs.Counting.{State}
use Rattle.counting.specs.Size.{expand_size}
use Rattle.counting.specs.StateWords.{held_at}
use Rattle.expansion.specs.Entry.{first_size, inside_of, to_come}
use Rattle.expansion.specs.Sizing.{Sizing}
use Rattle.expansion.specs.Walk.{Given, Opened, Shut, length_at}
use Rattle.expansion.proofs.WalkLaws.{given-left, length-block_of, shut-size}

module _ (l ws : List ℕ) (start : ℕ) where
  pub sizing-start : (used : ℕ) (P : Block) (s : State) → Given l used ws start P s → (p : ℕ) → p ≡ get_or ws 0 0 → Sizing l ws start s 0 3 p (used - start)
  sizing-start used P s g p e = record { inner = s; left = rw e (given-left l ws start used P s g); sum = omega arith }

  pub opened-size : (e p end : ℕ) (s : State) (o : Opened l ws start e p end s)
      → expand_size s ≡ to_come (held_at ws e) * length_at l start p + (end - (p + length_at l start p)) + (4 + expand_size o.inner)
  opened-size e p end s o = omega (arith, o.around.size, length-block_of o.inner)

  pub sizing-step : (s : State) (total e p end : ℕ) (z : Sizing l ws start s total e p end) (o : Opened l ws start e p end z.inner) (n r q : ℕ) → n ≡ length_at l start p
      → r ≡ to_come (held_at ws e) * n + (end - (p + n)) → q ≡ inside_of (held_at ws e) → Sizing l ws start s (total + (4 + r)) (e + 6) q (p + n)
  sizing-step s total e p end z o n r q en er eq =
      record { inner = o.inner; left = rw (eq, en) o.left; sum = sizes (rw en at er) (opened-size e p end z.inner o) z.sum }
    where
      sizes : r ≡ to_come (held_at ws e) * length_at l start p + (end - (p + length_at l start p))
          → expand_size z.inner ≡ to_come (held_at ws e) * length_at l start p + (end - (p + length_at l start p)) + (4 + expand_size o.inner)
          → total + expand_size z.inner ≡ expand_size s → total + (4 + r) + expand_size o.inner ≡ expand_size s
      sizes f g h = omega arith

-- the same numbers
pub sizing-same : {l ws : List ℕ} {start : ℕ} {s : State} {total e p end : ℕ} (t f : ℕ) → t ≡ total → f ≡ e → Sizing l ws start s total e p end → Sizing l ws start s t f p end
sizing-same t f et ef z = rw (et, ef) z

-- what is innermost, where nothing is open in it
pub shut-total : (l ws : List ℕ) (start e p end : ℕ) (s : State) (h : Shut l ws start e p end s) (n r f : ℕ) → n ≡ length_at l start p
    → r ≡ to_come (held_at ws e) * n + (end - (p + n)) → f ≡ first_size (get_or ws (e + 5) 0) (get_or ws (e + 4) 0) n → r + f ≡ expand_size s
shut-total l ws start e p end s h n r f en er ef = sizes (rw en at er) (rw en at ef) (shut-size l ws start e p end s h)
  where
    sizes : r ≡ to_come (held_at ws e) * length_at l start p + (end - (p + length_at l start p)) → f ≡ first_size (get_or ws (e + 5) 0) (get_or ws (e + 4) 0) (length_at l start p)
        → expand_size s ≡ to_come (held_at ws e) * length_at l start p + (end - (p + length_at l start p)) + first_size (get_or ws (e + 5) 0) (get_or ws (e + 4) 0) (length_at l start p)
        → r + f ≡ expand_size s
    sizes a b c = omega arith
