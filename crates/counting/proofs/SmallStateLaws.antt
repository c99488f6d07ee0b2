-- The values that a state holds: each passes exactly where the state is small; and where words hold the state, they are the words' own.
use Prim.Native.Nat.{◌+◌, suc, zero, ℕ}
use mathlib.Core.Path.{ap, ap₂, refl, sym, ◌∙◌, ◌≡◌}
use mathlib.Core.Bool.{Bool}
use mathlib.Core.List.{◌++◌, List, [], ◌∷◌, map}
use native.Mathlib.Nat.{zero-add}
use Rattle.rules.specs.Sound.{SmallValues}
use Rattle.rules.specs.Syntax.{Block}
use Rattle.counting.specs.Counting.{State, at_zero, here, in_block, in_body, storing, summed, unrolling}
use Rattle.counting.specs.Held.{Held, Numbers, around, block_numbers, canonical, canonical_as, canonical_held, held_block, held_loop, left_at_block, left_at_loop, mark, numbers, shut_at, turn_numbers, waiting_sum}
use Rattle.counting.specs.Place.{body_at, inside_at, place_of}
use Rattle.counting.specs.ReadState.{right}
use Rattle.counting.specs.SmallState.{SmallState, counts_in, counts_of, sum_of, top_as, tops_of}
use Rattle.counting.specs.StateWords.{decode_state, unpacked}
use Rattle.counting.proofs.CanonicalLaws.{numbers-read}

module _ (ok : ℕ → Bool) where
  pub counts-small : (s : State) → SmallValues ok (counts_in s) → SmallState ok s
  unfolding counts_in
  counts-small (here r) h = tt
  counts-small (summed x e v r) h = h.0
  counts-small (in_block q s r) h = counts-small s h
  counts-small (unrolling x c d q r) h = h.0
  counts-small (at_zero x d q r) h = h.0
  counts-small (storing x c d q r) h = h.0
  counts-small (in_body x c d q s r) h = (h.0, counts-small s h.1)

  pub small-counts : (s : State) → SmallState ok s → SmallValues ok (counts_in s)
  unfolding counts_in
  small-counts (here r) h = tt
  small-counts (summed x e v r) h = (h, tt)
  small-counts (in_block q s r) h = small-counts s h
  small-counts (unrolling x c d q r) h = (h, tt)
  small-counts (at_zero x d q r) h = (h, tt)
  small-counts (storing x c d q r) h = (h, tt)
  small-counts (in_body x c d q s r) h = (h.0, small-counts s h.1)

-- THE STATE'S NUMBERS hold them

numbers-counts : (s : State) (b : Block) (a : ℕ) → counts_of (numbers s b a) ≡ counts_in s
unfolding numbers shut_at block_numbers turn_numbers around held_block held_loop counts_of tops_of top_as sum_of counts_in
numbers-counts (here r) b a = refl
numbers-counts (summed x e v r) b a = refl
numbers-counts (in_block q s r) b a = numbers-counts s q (inside_at (place_of b a (left_at_block q r)))
numbers-counts (unrolling x c d q r) b a = refl
numbers-counts (at_zero x d q r) b a = ap (λ (n : ℕ). n ∷ []) (zero-add d)
numbers-counts (storing x c d q r) b a = refl
numbers-counts (in_body x c d q s r) b a = ap (λ (l : List ℕ). (c + d) ∷ l) (numbers-counts s q (body_at (place_of b a (left_at_loop q r))))

-- and made canonical, numbers hold the same

canonical-top : (what : ℕ) (h : Held) → h.what ≡ what → (more : List ℕ) → top_as (canonical_as what h).what (canonical_as what h).top more ≡ top_as h.what h.top more
unfolding canonical_as held_block top_as
canonical-top zero h e more = refl
canonical-top (suc zero) h e more = rw e refl
canonical-top (suc (suc n)) h e more = refl

canonical-tops : (hs : List Held) → tops_of (map canonical_held hs) ≡ tops_of hs
unfolding tops_of canonical_held
canonical-tops [] = refl
canonical-tops (h ∷ hs) = canonical-top h.what h refl (tops_of (map canonical_held hs)) ∙ ap (top_as h.what h.top) (canonical-tops hs)

canonical-sum : (w v : ℕ) → sum_of (mark w) (waiting_sum w v) ≡ sum_of w v
unfolding sum_of mark waiting_sum
canonical-sum zero v = refl
canonical-sum (suc w) v = refl

canonical-counts : (w : Numbers) → counts_of (canonical w) ≡ counts_of w
unfolding counts_of canonical
canonical-counts w = ap₂ (λ (x y : List ℕ). x ++ y) (canonical-tops w.held) (canonical-sum w.waits w.sum)

-- WORDS that hold a state
pub held-counts : (P : Block) (ws : List ℕ) (s : State) → numbers s P 0 ≡ canonical (unpacked ws) → counts_in s ≡ counts_of (unpacked ws)
held-counts P ws s e = sym (numbers-counts s P 0) ∙ ap counts_of e ∙ canonical-counts (unpacked ws)

pub decode-counts : (P : Block) (ws : List ℕ) (s : State) → decode_state P ws ≡ right s → counts_in s ≡ counts_of (unpacked ws)
unfolding decode_state
decode-counts P ws s e = held-counts P ws s (numbers-read (unpacked ws) P 0 s e)
