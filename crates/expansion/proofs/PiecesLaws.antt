-- The pieces of an expansion on plain lists: their lengths, and how they are stored from both ends of the place they fill.
use Prim.Native.Nat.{◌*◌, ◌+◌, ◌-◌, ◌<◌, ◌≤◌, suc, zero, ℕ}
use mathlib.Core.Path.{ap, refl, ◌∙◌, ◌≡◌}
use mathlib.Core.List.{◌++◌, List}
use lib.ListN.{length, length-append}
use native.Mathlib.Nat.{suc-mul, zero-mul}
use native.Mathlib.Omega.{arith}
use Rattle.buffer.specs.LittleEndian.{val}
use Rattle.buffer.specs.Slice.{part, put}
use Rattle.buffer.proofs.SliceLaws.{length_part, length-put, put-put, put-put-front}
use Rattle.place.specs.Edit.{lead}
use Rattle.place.specs.Heads.{record_head}
use Rattle.place.proofs.EditLaws.{length-lead}
use Rattle.place.proofs.HeadsLaws.{length-record_head}
use Rattle.expansion.specs.Entry.{first_size}
use Rattle.expansion.specs.Pieces.{around_bytes, block_bytes, first_bytes, last_turn, led_bytes, storing_bytes, turn_bytes, turns_bytes, unrolling_bytes}

-- LENGTHS

pub length-led : (l : List ℕ) (at kind n v from count : ℕ) → from + count ≤ length l → length (led_bytes l at kind n v from count) ≡ 16 + count
unfolding led_bytes
length-led l at kind n v from count h =
    length-append (lead kind n (val (part l (at + 4) 4)) 16 v) (part l from count)
    ∙ omega (arith, length-lead kind n (val (part l (at + 4) 4)) 16 v, length_part l from count h)

pub length-block_bytes : (m : List ℕ) → length (block_bytes m) ≡ 4 + length m
unfolding block_bytes
length-block_bytes m = length-append (record_head 1 (4 + length m)) m ∙ omega (arith, length-record_head 1 (4 + length m))

module _ (l : List ℕ) (at n : ℕ) (low : 20 ≤ n) (room : at + n ≤ length l) where
  pub length-turn : (v : ℕ) → length (turn_bytes l at n v) ≡ n - 4
  unfolding turn_bytes
  length-turn v = omega (arith, length-led l at 2 16 v (at + 20) (n - 20) (omega arith))

  pub length-turns-suc : (c : ℕ) (m : List ℕ) (d : ℕ) → length (turns_bytes l at n c m (suc d)) ≡ n + length (turns_bytes l at n c m d)
  unfolding turns_bytes
  length-turns-suc c m d =
      let t : List ℕ = turns_bytes l at n c m d in
      let u : List ℕ = turn_bytes l at n (last_turn c d) in
      omega (arith, length-block_bytes (t ++ u), length-append t u, length-turn (last_turn c d))

  pub length-turns : (c : ℕ) (m : List ℕ) (d : ℕ) → length (turns_bytes l at n c m d) ≡ d * n + length m
  length-turns c m zero = unfold turns_bytes in (omega (arith, zero-mul n))
  length-turns c m (suc d) = omega (arith, length-turns-suc c m d, length-turns c m d, suc-mul d n)

-- no turns are nothing around
pub turns-none : (l : List ℕ) (at n c : ℕ) (m : List ℕ) → turns_bytes l at n c m 0 ≡ m
unfolding turns_bytes
turns-none l at n c m = refl

pub length-around : (l : List ℕ) (at n behind c d : ℕ) (m : List ℕ) → (0 < d → 20 ≤ n) → at + n + behind ≤ length l
    → length (around_bytes l at n behind c d m) ≡ d * n + behind + length m
unfolding around_bytes
length-around l at n behind c zero m low room =
    let t : List ℕ = turns_bytes l at n c m 0 in
    omega (arith, length-append t (part l (at + n) behind), length_part l (at + n) behind (omega arith), ap length (turns-none l at n c m), zero-mul n)
length-around l at n behind c (suc d) m low room =
    let t : List ℕ = turns_bytes l at n c m (suc d) in
    omega (arith, length-append t (part l (at + n) behind), length_part l (at + n) behind (omega arith), length-turns l at n (low (omega arith)) (omega arith) c m (suc d))

module _ (l : List ℕ) (at n c : ℕ) (low : 20 ≤ n) (room : at + n ≤ length l) where
  length-storing : length (storing_bytes l at n c) ≡ n
  unfolding storing_bytes
  length-storing = omega (arith, length-append (record_head 1 n) (turn_bytes l at n c), length-record_head 1 n, length-turn l at n low room c)

  length-unrolling : length (unrolling_bytes l at n c) ≡ n
  unfolding unrolling_bytes
  length-unrolling = omega (arith, length-led l at 3 n c (at + 16) (n - 16) (omega arith))

  pub length-first : (progress running : ℕ) → length (first_bytes progress running l at n c) ≡ first_size progress running n
  unfolding first_bytes first_size
  length-first (suc zero) running = length-storing
  length-first zero zero = length-unrolling
  length-first zero (suc f) = length-record_head 1 4
  length-first (suc (suc i)) zero = length-unrolling
  length-first (suc (suc i)) (suc f) = length-record_head 1 4

-- FROM BOTH ENDS: what is to be put at `front` is put in front of it, or behind the rest of it, and the rest is left

-- its first bytes are stored
pub front-first : (o o₁ h m : List ℕ) (front next : ℕ) → o₁ ≡ put o front h → front + length h ≡ next → next ≤ length o → put o₁ next m ≡ put o front (h ++ m)
front-first o o₁ h m front next e n r = ap (λ (y : List ℕ). put y next m) e ∙ put-put o h m front next n r

-- its last bytes are stored
pub back-first : (o o₁ m t : List ℕ) (front next : ℕ) → o₁ ≡ put o next t → front + length m ≡ next → next ≤ length o → put o₁ front m ≡ put o front (m ++ t)
back-first o o₁ m t front next e n r = ap (λ (y : List ℕ). put y front m) e ∙ put-put-front o m t front next n r

-- a head and then the last bytes
pub block-first : (o o₁ o₂ m t : List ℕ) (front next n : ℕ) → n ≡ 4 + length (m ++ t) → o₁ ≡ put o front (record_head 1 n) → o₂ ≡ put o₁ next t
    → front + 4 + length m ≡ next → next ≤ length o → put o₂ (front + 4) m ≡ put o front (block_bytes (m ++ t))
unfolding block_bytes
block-first o o₁ o₂ m t front next n en e f g r =
    let h : List ℕ = record_head 1 n in
    let lh : length h ≡ 4 = length-record_head 1 n in
    let lo : length o₁ ≡ length o = ap length e ∙ length-put o h front (omega arith) in
    back-first o₁ o₂ m t (front + 4) next f g (omega arith)
    ∙ front-first o o₁ h (m ++ t) front (front + 4) e (omega arith) (omega arith)
    ∙ ap (λ (k : ℕ). put o front (record_head 1 k ++ (m ++ t))) en

-- the turn that the code counts to
last-turn : (v c i : ℕ) → v ≡ c + suc i → v ≡ last_turn c i
unfolding last_turn
last-turn v c i e = omega arith

-- A TURN TO COME: its head in front, itself at the end

module _ (l : List ℕ) (at n : ℕ) (low : 20 ≤ n) (room : at + n ≤ length l) (c : ℕ) (m : List ℕ) where
  -- where a turn is to come there is room for it
  pub turn-room : (i front back : ℕ) → 0 < i → front + length (turns_bytes l at n c m i) ≡ back → front + n + length m ≤ back
  turn-room zero front back z f = absurd (omega arith)
  turn-room (suc i) front back z f = omega (arith, length-turns-suc l at n low room c m i, length-turns l at n low room c m i)

  pub turn-written : (o o₁ o₂ : List ℕ) (i v front back next : ℕ) → 0 < i → v ≡ c + i → front + length (turns_bytes l at n c m i) ≡ back → back ≤ length o
      → o₁ ≡ put o front (record_head 1 (back - front)) → next ≡ back - (n - 4) → o₂ ≡ put o₁ next (turn_bytes l at n v)
      → (put o₂ (front + 4) (turns_bytes l at n c m (i - 1)) ≡ put o front (turns_bytes l at n c m i)) × (front + 4 + length (turns_bytes l at n c m (i - 1)) ≡ next)
  turn-written o o₁ o₂ zero v front back next z ev f r e g h = absurd (omega arith)
  turn-written o o₁ o₂ (suc i) v front back next z ev f r e g h =
      let t : List ℕ = turns_bytes l at n c m i in
      let u : List ℕ = turn_bytes l at n (last_turn c i) in
      let lt : front + 4 + length t ≡ next = omega (arith, length-turns-suc l at n low room c m i) in
      let lu : back - front ≡ 4 + length (t ++ u) = omega (arith, length-append t u, length-turn l at n low room (last_turn c i), length-turns-suc l at n low room c m i) in
      let es : turn_bytes l at n v ≡ u = ap (turn_bytes l at n) {x = v} {y = last_turn c i} (last-turn v c i (omega arith)) in
      let one : i ≡ suc i - 1 = omega arith in
      rw (← one) ((block-first o o₁ o₂ t u front next (back - front) lu e (h ∙ ap (put o₁ next) es) lt (omega arith) ∙ unfold turns_bytes in refl, lt))
