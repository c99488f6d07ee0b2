-- Laws of the entries that are held, one by one.
use Prim.Native.Nat.{◌*◌, ◌+◌, ◌-◌, ◌<◌, ◌≤◌, suc, zero, ℕ}
use mathlib.Core.Path.{ap, refl, ◌∙◌, ◌≡◌}
use mathlib.Core.List.{List, [], ◌∷◌}
use lib.ListN.{get_or, length}
use lib.Dec.{eqb, ltb}
use mathlib.Core.Bool.{Bool, cond, false, not, true}
use borrow.Author.Tests.{ltb-false, ne_eqb}
use Rattle.std.proofs.Common.{None, Some}
use Rattle.std.specs.Option.{unwrap_or}
use Rattle.std.specs.List.{position_or_len, range_with_len}
use native.Mathlib.Omega.{arith}
use Rattle.counting.specs.Held.{Held}
use Rattle.state_words.specs.declared.EntryWords.{EntryWords}
use Rattle.state_words.specs.Entry.{entry_at}
use Rattle.canonical.specs.Canonical.{held_of}
use Rattle.counting.specs.StateWords.{held_at, held_from, unless_none}

-- no more than are looked at
pub from-few : (ws : List ℕ) (i m : ℕ) → length (held_from ws i m) ≤ m
unfolding held_from
from-few ws i zero = omega arith
from-few ws i (suc m) = by-what (get_or ws i 0) (from-few ws (i + 6) m)
  where
    by-what : (what : ℕ) → length (held_from ws (i + 6) m) ≤ m → length (unless_none what (held_at ws i) (held_from ws (i + 6) m)) ≤ suc m
    by-what zero l = unfold unless_none in (omega arith)
    by-what (suc what) l = unfold unless_none in (omega arith)

-- none from an entry on that is held open as 0
pub from-none : (ws : List ℕ) (i m : ℕ) → get_or ws i 0 ≡ 0 → held_from ws i m ≡ []
unfolding held_from unless_none
from-none ws i zero e = refl
from-none ws i (suc m) e = ap (λ (w : ℕ). unless_none w (held_at ws i) (held_from ws (i + 6) m)) e

-- else that entry, and those behind it
pub from_some : (ws : List ℕ) (i m : ℕ) → (get_or ws i 0 ≡ 0 → ⊥) → held_from ws i (suc m) ≡ held_at ws i ∷ held_from ws (i + 6) m
unfolding held_from
from_some ws i m f = by-what (get_or ws i 0) f
  where
    by-what : (what : ℕ) → (what ≡ 0 → ⊥) → unless_none what (held_at ws i) (held_from ws (i + 6) m) ≡ held_at ws i ∷ held_from ws (i + 6) m
    by-what zero f = absurd (f refl)
    by-what (suc what) f = unfold unless_none in refl

-- the words of an entry are read at once
pub held-of : (ws : List ℕ) (j : ℕ) {e : EntryWords} → e ≡ entry_at ws j → held_of e ≡ held_at ws (3 + 6 * j)
unfolding held_at
held-of ws j e = ap held_of e

-- BEHIND j ENTRIES

-- The entries behind j others.
abbrev pub behind : List ℕ → ℕ → List Held
behind ws j = held_from ws (3 + 6 * j) (31 - j)

pub behind-few : (ws : List ℕ) (j : ℕ) → length (behind ws j) ≤ 31 - j
behind-few ws j = from-few ws (3 + 6 * j) (31 - j)

pub behind-none : (ws : List ℕ) (j : ℕ) → get_or ws (3 + 6 * j) 0 ≡ 0 → length (behind ws j) ≡ 0
behind-none ws j e = ap length (from-none ws (3 + 6 * j) (31 - j) e)

pub behind-some : (ws : List ℕ) (j : ℕ) → j < 31 → (get_or ws (3 + 6 * j) 0 ≡ 0 → ⊥) → behind ws j ≡ held_at ws (3 + 6 * j) ∷ behind ws (j + 1)
behind-some ws j l f =
    ap (λ (m : ℕ). held_from ws (3 + 6 * j) m) {x = 31 - j} {y = suc (31 - (j + 1))} (omega arith)
    ∙ from_some ws (3 + 6 * j) (31 - (j + 1)) f
    ∙ ap (λ (i : ℕ). held_at ws (3 + 6 * j) ∷ held_from ws i (31 - (j + 1))) {x = 3 + 6 * j + 6} {y = 3 + 6 * (j + 1)} (omega arith)

-- where one is held there, it is held open as something
pub behind-held : (ws : List ℕ) (j : ℕ) → 0 < length (behind ws j) → get_or ws (3 + 6 * j) 0 ≡ 0 → ⊥
behind-held ws j l e = omega (arith, behind-none ws j e)

-- THE COUNT

-- where an entry is held open as 0, of m from the a-th on, or m
pub held-count : (ws : List ℕ) (a m : ℕ) → position_or_len (λ j. eqb (get_or ws (3 + 6 * j) 0) 0) (range_with_len a m) ≡ length (held_from ws (3 + 6 * a) m)
unfolding held_from
held-count ws a zero = refl
held-count ws a (suc m) = by-what (get_or ws (3 + 6 * a) 0) (held-count ws (a + 1) m) ∙ ap (λ (i : ℕ). length (unless_none (get_or ws (3 + 6 * a) 0) (held_at ws (3 + 6 * a)) (held_from ws i m))) {x = 3 + 6 * (a + 1)} {y = 3 + 6 * a + 6} (omega arith)
  where
    by-what : {n : ℕ} (what : ℕ) → n ≡ length (held_from ws (3 + 6 * (a + 1)) m) → cond (not (eqb what 0)) (1 + n) 0 ≡ length (unless_none what (held_at ws (3 + 6 * a)) (held_from ws (3 + 6 * (a + 1)) m))
    by-what {n} zero e = unfold unless_none in refl
    by-what {n} (suc what) e = ap (λ (t : Bool). cond (not t) (1 + n) 0) (ne_eqb (suc what) 0 (λ z. omega arith)) ∙ (unfold unless_none in (omega arith))

-- that or 31, as the code finds it
pub held-found : (ws : List ℕ) → let n = position_or_len (λ (j : ℕ). eqb (get_or ws (3 + 6 * j) 0) 0) (range_with_len 0 31) in unwrap_or (cond (ltb n 31) (Some n) None) 31 ≡ length (held_from ws 3 31)
held-found ws = rw (held-count ws 0 31) (by-test (length (held_from ws 3 31)) (from-few ws 3 31))
  where
    by-test : (n : ℕ) → n ≤ 31 → unwrap_or (cond (ltb n 31) (Some n) None) 31 ≡ n
    by-test n l = elim (ltb n 31) as (λ (t : Bool). ltb n 31 ≡ t → unwrap_or (cond t (Some n) None) 31 ≡ n) [ true ↦ λ e. refl | false ↦ λ e. omega (arith, ltb-false n 31 e) ] refl

pub count_next : (ws : List ℕ) (n : ℕ) → length (behind ws 0) ≡ n + length (behind ws n) → n < 31 → (get_or ws (3 + 6 * n) 0 ≡ 0 → ⊥) → length (behind ws 0) ≡ n + 1 + length (behind ws (n + 1))
count_next ws n e l f = let k : length (behind ws n) ≡ suc (length (behind ws (n + 1))) = ap length (behind-some ws n l f) in omega arith
