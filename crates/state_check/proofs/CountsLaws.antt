-- The values that words hold, one after the other: what is left of them behind j entries.
use Prim.Native.Nat.{◌*◌, ◌+◌, ◌<◌, ◌≤◌, suc, zero, ℕ}
use mathlib.Core.Path.{ap, ap₂, refl, sym, ◌∙◌, ◌≡◌}
use mathlib.Core.Bool.{Bool, false, not, true, ◌&&◌, ◌||◌}
use mathlib.Core.List.{◌++◌, List, [], ◌∷◌, append_assoc}
use borrow.Author.Tests.{le-ltb, lt-ltb}
use lib.Dec.{ltb}
use lib.ListN.{get_or, length}
use native.Mathlib.Omega.{arith}
use Rattle.rules.specs.Literals.{small_values}
use Rattle.rules.specs.Store.{up_to}
use Rattle.rules.proofs.LiteralsLaws.{first_above, second-decides}
use Rattle.rules.proofs.StoreLaws.{up_to-above, up_to-iff}
use Rattle.counting.specs.Held.{Held}
use Rattle.counting.specs.SmallState.{counts_of, sum_of, top_as, tops_of}
use Rattle.counting.specs.StateWords.{held_at, held_from, unpacked}
use Rattle.std.specs.List.{list_any, range_with_len}
use Rattle.canonical.proofs.HeldLaws.{behind, from-few, behind-held, behind-some, count_next}

-- ONE VALUE

above-one : (largest v : ℕ) → ltb largest v ≡ not (small_values (up_to largest) (v ∷ []))
unfolding small_values
above-one largest v = go (up_to largest v) refl
  where
    go : (b : Bool) → up_to largest v ≡ b → ltb largest v ≡ not (b && true)
    go true e = le-ltb largest v ((up_to-iff largest v).0 e)
    go false e = lt-ltb largest v ((up_to-above largest v).0 e)

-- EACH WAY OUT of the code

module _ (largest what top : ℕ) where
  pub top-none : (what ≡ 2 → ⊥) → false ≡ not (small_values (up_to largest) (top_as what top []))
  unfolding top_as small_values
  top-none f = go what f
    where
      go : (w : ℕ) → (w ≡ 2 → ⊥) → false ≡ not (small_values (up_to largest) (top_as w top []))
      go zero g = refl
      go (suc zero) g = refl
      go (suc (suc zero)) g = absurd (g refl)
      go (suc (suc (suc n))) g = refl

  pub top-loop : what ≡ 2 → ltb largest top ≡ not (small_values (up_to largest) (top_as what top []))
  unfolding top_as
  top-loop e = above-one largest top ∙ ap (λ (w : ℕ). not (small_values (up_to largest) (top_as w top []))) (sym e)

module _ (largest waits sum : ℕ) where
  pub sum-none : waits ≡ 0 → false ≡ not (small_values (up_to largest) (sum_of waits sum))
  unfolding sum_of small_values
  sum-none e = ap (λ (w : ℕ). not (small_values (up_to largest) (sum_of w sum))) (sym e)

  pub sum-waits : (waits ≡ 0 → ⊥) → ltb largest sum ≡ not (small_values (up_to largest) (sum_of waits sum))
  unfolding sum_of
  sum-waits f = go waits f
    where
      go : (w : ℕ) → (w ≡ 0 → ⊥) → ltb largest sum ≡ not (small_values (up_to largest) (sum_of w sum))
      go zero g = absurd (g refl)
      go (suc w) g = above-one largest sum

-- BEHIND j ENTRIES

-- The top counts behind, and the sum.
abbrev pub counts_behind : List ℕ → ℕ → List ℕ
counts_behind ws j = tops_of (behind ws j) ++ sum_of (get_or ws 1 0) (get_or ws 2 0)

pub counts_all : (ws : List ℕ) → counts_of (unpacked ws) ≡ counts_behind ws 0
unfolding counts_of unpacked
counts_all ws = refl

top-append : (what top : ℕ) (more : List ℕ) → top_as what top more ≡ top_as what top [] ++ more
unfolding top_as
top-append zero top more = refl
top-append (suc zero) top more = refl
top-append (suc (suc zero)) top more = refl
top-append (suc (suc (suc n))) top more = refl

-- n entries are held, of which j have been looked at
pub record Looked (ws : List ℕ) (n j : ℕ) : Type 0 where
  pub few : n ≤ 31
  pub all : n ≡ length (behind ws 0)
  pub some : length (behind ws 0) ≡ j + length (behind ws j)

module _ {ws : List ℕ} {n j : ℕ} (l : Looked ws n j) (b : j < n) where
  held : get_or ws (3 + 6 * j) 0 ≡ 0 → ⊥
  held = behind-held ws j (omega (arith, l.all, l.some))

  pub looked-on : Looked ws n (j + 1)
  looked-on = record { few = l.few; all = l.all; some = count_next ws j l.some (omega (arith, l.few)) held }

  -- the entry's own, and then those behind it
  counts-next : counts_behind ws j ≡ top_as (get_or ws (3 + 6 * j) 0) (get_or ws (3 + 6 * j + 2) 0) [] ++ counts_behind ws (j + 1)
  unfolding tops_of held_at
  counts-next =
      let what = get_or ws (3 + 6 * j) 0 in
      let top = get_or ws (3 + 6 * j + 2) 0 in
      let sum = sum_of (get_or ws 1 0) (get_or ws 2 0) in
      ap (λ (hs : List Held). tops_of hs ++ sum) (behind-some ws j (omega (arith, l.few)) held)
      ∙ ap (λ (x : List ℕ). x ++ sum) (top-append what top (tops_of (behind ws (j + 1))))
      ∙ append_assoc (top_as what top []) (tops_of (behind ws (j + 1))) sum

  module _ (ok : ℕ → Bool) (above : Bool) (tells : above ≡ not (small_values ok (top_as (get_or ws (3 + 6 * j) 0) (get_or ws (3 + 6 * j + 2) 0) []))) where
    abbrev tops : List ℕ
    tops = top_as (get_or ws (3 + 6 * j) 0) (get_or ws (3 + 6 * j + 2) 0) []

    pub some-above : above ≡ true → true ≡ not (small_values ok (counts_behind ws j))
    some-above t = first_above ok tops (counts_behind ws (j + 1)) above tells t ∙ ap (λ (l : List ℕ). not (small_values ok l)) (sym counts-next)

    pub none_above : above ≡ false → small_values ok (counts_behind ws j) ≡ small_values ok (counts_behind ws (j + 1))
    none_above f = ap (small_values ok) counts-next ∙ second-decides ok tops (counts_behind ws (j + 1)) above tells f

-- behind the last there is the sum alone
tops-none : (hs : List Held) → length hs ≡ 0 → tops_of hs ≡ []
unfolding tops_of
tops-none [] e = refl
tops-none (h ∷ hs) e = absurd (omega arith)

pub counts-last : {ws : List ℕ} {n j : ℕ} → Looked ws n j → n ≤ j → counts_behind ws j ≡ sum_of (get_or ws 1 0) (get_or ws 2 0)
counts-last {ws} {n} {j} l b = ap (λ (x : List ℕ). x ++ sum_of (get_or ws 1 0) (get_or ws 2 0)) (tops-none (behind ws j) (omega (arith, l.all, l.some)))

-- ANY OF THEM

-- the top count of the entry behind j others is above the largest
abbrev pub top-above : (ℕ → Bool) → List ℕ → ℕ → Bool
top-above ok ws j = not (small_values ok (top_as (get_or ws (3 + 6 * j) 0) (get_or ws (3 + 6 * j + 2) 0) []))

any-from : {ws : List ℕ} {n : ℕ} (ok : ℕ → Bool) (j m : ℕ) → Looked ws n j → n ≡ j + m
    → list_any (top-above ok ws) (range_with_len j m) || not (small_values ok (sum_of (get_or ws 1 0) (get_or ws 2 0))) ≡ not (small_values ok (counts_behind ws j))
any-from {ws} {n} ok j zero l e = ap (λ (x : List ℕ). not (small_values ok x)) (sym (counts-last l (omega arith)))
any-from {ws} {n} ok j (suc m) l e = by-test (top-above ok ws j) _ _ refl (any-from ok (j + 1) m (looked-on l b) (omega arith))
  where
    b : j < n
    b = omega arith

    by-test : (t x y : Bool) → top-above ok ws j ≡ t → x || y ≡ not (small_values ok (counts_behind ws (j + 1))) → (t || x) || y ≡ not (small_values ok (counts_behind ws j))
    by-test true x y f e = some-above l b ok (top-above ok ws j) refl f
    by-test false x y f e = e ∙ ap not (sym (none_above l b ok (top-above ok ws j) refl f))

pub counts-any : (ws : List ℕ) (ok : ℕ → Bool) (n : ℕ) → n ≡ length (held_from ws 3 31) → (r s : Bool) → r ≡ list_any (top-above ok ws) (range_with_len 0 n) → s ≡ not (small_values ok (sum_of (get_or ws 1 0) (get_or ws 2 0)))
    → r || s ≡ not (small_values ok (counts_of (unpacked ws)))
counts-any ws ok n c r s e f =
    ap₂ (λ (x y : Bool). x || y) e f
    ∙ any-from ok 0 n (record { few = omega (arith, c, from-few ws 3 31); all = c; some = omega arith }) (omega arith)
    ∙ ap (λ (x : List ℕ). not (small_values ok x)) (sym (counts_all ws))

-- one above is enough
pub counts-some : (ws : List ℕ) (ok : ℕ → Bool) (n : ℕ) → n ≡ length (held_from ws 3 31) → (r : Bool) → r ≡ list_any (top-above ok ws) (range_with_len 0 n) → r ≡ true → r ≡ not (small_values ok (counts_of (unpacked ws)))
counts-some ws ok n c r e t =
    let s = not (small_values ok (sum_of (get_or ws 1 0) (get_or ws 2 0))) in
    t ∙ ap (λ (b : Bool). b || s) (sym t) ∙ counts-any ws ok n c r s e refl
