-- What rows 12, 13 and 16 say in plain facts.
use Prim.Native.Nat.{◌<◌, ℕ}
use mathlib.Core.Path.{ap, refl, sym, ◌∙◌, ◌≡◌}
use mathlib.Core.Logic.Iff
use mathlib.Core.Logic.{inl, inr, ◌↔◌, ◌⊎◌}
use mathlib.Core.Bool.{not, true}
use mathlib.Core.List.{◌++◌, List, [], ◌∷◌}
use mathlib.Core.Option.{some}
use borrow.Author.Tests.{lt-ltb, ltb-true}
use lib.Dec.{ltb}
use native.Mathlib.Omega.{arith}
use Rattle.record.specs.Header.{largest_of}
use Rattle.record.specs.Rows.{block_of, header_of, program_of, values_above}
use Rattle.record.proofs.RowLaws.{holds-some, or_else-some}
use Rattle.record.proofs.RowMeaningLaws.{rows-mean}
use Rattle.rules.specs.Literals.{Among}
use Rattle.rules.specs.Syntax.{Block, empty}
use Rattle.rules.proofs.Tests.{true-false}
use Rattle.counting.specs.Counting.{State}
use Rattle.counting.specs.CountingCall.{bad_state, or_start, state_above, too_deep}
use Rattle.counting.specs.CountingMeaning.{HeldIn, Refused13}
use Rattle.counting.specs.Depth.{nesting}
use Rattle.counting.specs.ReadState.{Read, Wrong, is_right, read_numbers, right, wrong}
use Rattle.counting.specs.SmallState.{counts_in}
use Rattle.counting.specs.StateWords.{decode_state, unpacked}
use Rattle.counting.proofs.FaultLaws.{fault-exactly}
use Rattle.counting.proofs.PassesLaws.{passes}
use Rattle.counting.proofs.ReadInversion.{wrong-inv}

-- ROW 12: the program is nested over 32 deep
pub twelve : (buf : List ℕ) (used : ℕ) (P : Block) → block_of buf used ≡ some P → (too_deep buf used ≡ true) ↔ (32 < nesting P)
unfolding too_deep
twelve buf used P e =
    rw (holds-some (λ (Q : Block). ltb 32 (nesting Q)) (block_of buf used) P e) ((λ h. ltb-true 32 (nesting P) h), (λ h. lt-ltb 32 (nesting P) h))

-- ROW 13

pub decode-held : (P : Block) (words : List ℕ) (s : State) → (decode_state P words ≡ right s) ↔ HeldIn P words s
unfolding decode_state
decode-held P words s =
    let p = passes (unpacked words) P 0 s in
    ((λ e. let h = p.0 e in record { of = h.0; same = h.1 }), (λ h. p.1 (h.of, h.same)))

wrong-none : (o : Read State) → (not (is_right o) ≡ true) ↔ ((s : State) → o ≡ right s → ⊥)
unfolding is_right
wrong-none (right s) = ((λ e. true-false (sym e)), (λ h. absurd (h s refl)))
wrong-none (wrong w) = ((λ e s q. let z : ◌≡◌ {A = ℕ} 0 1 = cc in omega arith), (λ h. refl))

-- it is whether the words are wrong, of the program
pub bad-state : (buf : List ℕ) (used : ℕ) (P : Block) (words : List ℕ) → block_of buf used ≡ some P → bad_state buf used words ≡ not (is_right (decode_state P words))
unfolding bad_state
bad-state buf used P words e = holds-some (λ (Q : Block). not (is_right (decode_state Q words))) (block_of buf used) P e

-- it applies exactly where one of 02's conditions holds of the words' numbers, and nothing else is asked of the words
wrong-conditions : (P : Block) (words : List ℕ) → (not (is_right (decode_state P words)) ≡ true) ↔ Refused13 P words
unfolding decode_state unpacked
wrong-conditions P words =
    let f = fault-exactly (unpacked words) P 0 in
    ((λ h. f.0 (found (read_numbers (unpacked words) P 0) h)), (λ k. (wrong-none (read_numbers (unpacked words) P 0)).1 (λ s q. clash (f.1 k) s q)))
  where
    found : (o : Read State) → not (is_right o) ≡ true → (z : Wrong) × (o ≡ wrong z)
    found (right s) h = unfold is_right in (true-false (sym h))
    found (wrong z) h = (z, refl)

    clash : (z : Wrong) × (read_numbers (unpacked words) P 0 ≡ wrong z) → (s : State) → read_numbers (unpacked words) P 0 ≡ right s → ⊥
    clash w s q = wrong-inv w.0 s (sym w.1 ∙ q)

pub thirteen : (buf : List ℕ) (used : ℕ) (P : Block) (words : List ℕ) → block_of buf used ≡ some P → (bad_state buf used words ≡ true) ↔ Refused13 P words
thirteen buf used P words e = rw (bad-state buf used P words e) (wrong-conditions P words)

-- and that is where the words hold no state of the program
pub no-state : (P : Block) (words : List ℕ) → Refused13 P words ↔ ((s : State) → HeldIn P words s → ⊥)
no-state P words =
    let w = wrong-conditions P words in
    let n = wrong-none (decode_state P words) in
    ((λ k s q. n.0 (w.1 k) s ((decode-held P words s).1 q)), (λ k. w.0 (n.1 (λ s q. k s ((decode-held P words s).0 q)))))

-- ROW 16

pub right-state : (o : Read State) (s : State) → o ≡ right s → or_start o ≡ s
unfolding or_start
right-state o s e = rw e refl

among-append : (n : ℕ) (r s : List ℕ) → Among n (r ++ s) → Among n r ⊎ Among n s
among-append n [] s h = inr h
among-append n (v ∷ r) s (inl e) = inl (inl e)
among-append n (v ∷ r) s (inr h) = go (among-append n r s h)
  where
    go : Among n r ⊎ Among n s → Among n (v ∷ r) ⊎ Among n s
    go (inl g) = inl (inr g)
    go (inr g) = inr g

append-among : (n : ℕ) (r s : List ℕ) → Among n r ⊎ Among n s → Among n (r ++ s)
append-among n [] s (inl h) = absurd h
append-among n [] s (inr h) = h
append-among n (v ∷ r) s (inl (inl e)) = inl e
append-among n (v ∷ r) s (inl (inr h)) = inr (append-among n r s (inl h))
append-among n (v ∷ r) s (inr h) = inr (append-among n r s (inr h))

module _ (buf : List ℕ) (used : ℕ) (P : Block) (words store : List ℕ) (s : State) (block : block_of buf used ≡ some P) where
  -- it looks at the values of the store, and at those of the state that the words hold
  pub state-above : decode_state P words ≡ right s → state_above buf used words store ≡ values_above buf used (store ++ counts_in s)
  unfolding state_above
  state-above e =
      let is : or_start (decode_state (program_of buf used) words) ≡ s =
      ap (λ (Q : Block). or_start (decode_state Q words)) (or_else-some empty (block_of buf used) P block) ∙ right-state (decode_state P words) s e in
      ap (λ (t : State). values_above buf used (store ++ counts_in t)) is

  pub sixteen : HeldIn P words s → (state_above buf used words store ≡ true) ↔ ((n : ℕ) × (Among n store ⊎ Among n (counts_in s)) × (largest_of (header_of buf used) < n))
  sixteen h =
      rw (state-above ((decode-held P words s).1 h))
      (Iff.trans (rows-mean.sixteen buf used (store ++ counts_in s))
      ((λ v. (v.0, among-append v.0 store (counts_in s) v.1, v.2)), (λ v. (v.0, append-among v.0 store (counts_in s) v.1, v.2))))
