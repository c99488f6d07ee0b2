-- Laws of the edits of words.
use Prim.Native.Nat.{◌*◌, ◌+◌, ◌-◌, ◌≤◌, suc, zero, ℕ}
use mathlib.Core.Path.{ap, ap₂, refl, sym, ◌∙◌, ◌≡◌}
use mathlib.Core.Bool.{Bool, false, true}
use mathlib.Core.List.{List}
use borrow.Author.Tests.{ne_eqb}
use lib.Dec.{eqb}
use mir.Val.{bool_byte}
use lib.ListN.{get_or, length, length-set, set}
use native.Mathlib.Omega.{arith}
use Rattle.counting.specs.Frames.{place_word}
use Rattle.counting.specs.Held.{held_block, held_loop}
use Rattle.counting.proofs.WordEdits.{no_entry, put_entry}
use Rattle.state_words.specs.declared.EntryWords.{EntryWords}
use Rattle.state_words.specs.Entry.{entry_in_play, entry_popped, entry_pushed, entry_put, last_loop, mark_by, place_in, place_put, unmark_by}

-- THE PLACE

pub place-word-0 : (n : ℕ) → n ≡ 0 → 0 ≡ place_word n
unfolding place_word
place-word-0 n e = sym (ap place_word e)

pub place-word-suc : (n : ℕ) → (n ≡ 0 → ⊥) → 6 * n + 2 ≡ place_word n
unfolding place_word
place-word-suc zero h = absurd (h refl)
place-word-suc (suc n) h = omega arith

pub place-word-low : (n : ℕ) → n ≤ 31 → place_word n ≤ 188
unfolding place_word
place-word-low zero l = omega arith
place-word-low (suc n) l = omega arith

module _ (ws : List ℕ) where
  pub loop-none : (n : ℕ) → n ≡ 0 → false ≡ last_loop ws n
  unfolding last_loop
  loop-none n e = sym (ap (last_loop ws) e)

  pub loop-last : (n w : ℕ) → (n ≡ 0 → ⊥) → w ≡ get_or ws (3 + 6 * (n - 1)) 0 → eqb w 2 ≡ last_loop ws n
  unfolding last_loop
  loop-last zero w h e = absurd (h refl)
  loop-last (suc n) w h e = ap (λ (x : ℕ). eqb x 2) (e ∙ ap (λ (m : ℕ). get_or ws (3 + 6 * m) 0) {x = suc n - 1} {y = n} (omega arith))

  module _ (n w m : ℕ) (e : w ≡ place_word n) (f : m ≡ get_or ws w 0) where
    -- the place, and that 2 can be taken of it
    pub place_of : (r : Bool) → r ≡ last_loop ws n → unmark_by r m ≡ place_in ws n
    unfolding place_in
    place_of r g = ap (λ (b : Bool). unmark_by b m) g ∙ ap (unmark_by (last_loop ws n)) (f ∙ ap (λ (j : ℕ). get_or ws j 0) e)

    pub place-loop : (r : Bool) → r ≡ last_loop ws n → r ≡ true → m - 2 ≡ place_in ws n
    unfolding unmark_by
    place-loop r g t = sym (ap (λ (b : Bool). unmark_by b m) t) ∙ place_of r g

    pub place_other : (r : Bool) → r ≡ last_loop ws n → r ≡ false → m ≡ place_in ws n
    unfolding unmark_by
    place_other r g t = sym (ap (λ (b : Bool). unmark_by b m) t) ∙ place_of r g

    pub place-room : (r : Bool) → r ≡ last_loop ws n → r ≡ true → mark_by (last_loop ws n) 0 ≤ get_or ws (place_word n) 0 → 2 ≤ m
    unfolding mark_by
    place-room r g t l =
        let a : mark_by (last_loop ws n) 0 ≡ 2 = ap (λ (b : Bool). mark_by b 0) (sym g ∙ t) in
        let c : m ≡ get_or ws (place_word n) 0 = f ∙ ap (λ (j : ℕ). get_or ws j 0) e in
        omega arith

  -- stored
  pub put-loop : (n w p : ℕ) (r : Bool) → w ≡ place_word n → r ≡ last_loop ws n → r ≡ true → set ws w (p + 2) ≡ place_put ws n p
  unfolding place_put mark_by
  put-loop n w p r e g t = ap (λ (j : ℕ). set ws j (p + 2)) e ∙ ap (λ (b : Bool). set ws (place_word n) (mark_by b p)) (sym t ∙ g)

  pub put_other : (n w p : ℕ) (r : Bool) → w ≡ place_word n → r ≡ last_loop ws n → r ≡ false → set ws w p ≡ place_put ws n p
  unfolding place_put mark_by
  put_other n w p r e g t = ap (λ (j : ℕ). set ws j p) e ∙ ap (λ (b : Bool). set ws (place_word n) (mark_by b p)) (sym t ∙ g)

  pub put-length : (n p : ℕ) → length (place_put ws n p) ≡ length ws
  unfolding place_put
  put-length n p = length-set ws (place_word n) (mark_by (last_loop ws n) p)

-- AN ENTRY

abbrev in_play : ℕ → ℕ → ℕ → ℕ → EntryWords
in_play at turns reached running = record { what = 2; at = at; top = turns; reached = reached; running = running; progress = 0 }

pub in_play-is : (at turns reached running : ℕ) → reached ≡ turns - 1 → running ≡ bool_byte (eqb turns 0) → in_play at turns reached running ≡ entry_in_play at turns
unfolding entry_in_play
in_play-is at zero r u e f = ap₂ (in_play at 0) e f
in_play-is at (suc t) r u e f = let g : r ≡ t = omega arith in ap₂ (in_play at (suc t)) g (f ∙ ap bool_byte (ne_eqb (suc t) 0 (λ z. omega arith)))

pub length-put : (l : List ℕ) (i what at top reached running progress : ℕ) → length (entry_put l i what at top reached running progress) ≡ length l
unfolding entry_put
length-put l i what at top reached running progress = simp length-set

-- as `counting` has them
pub push-block : (l : List ℕ) (n p i : ℕ) → entry_pushed l n 1 p 0 0 0 i ≡ put_entry l (3 + 6 * n) (held_block p i)
unfolding entry_pushed entry_put put_entry held_block
push-block l n p i = refl

pub push-loop : (l : List ℕ) (n p c d top running : ℕ) → top ≡ c + d → entry_pushed l n 2 p top c running 0 ≡ put_entry l (3 + 6 * n) (held_loop p c d running 0)
unfolding entry_pushed entry_put put_entry held_loop
push-loop l n p c d top running e = ap (λ (t : ℕ). entry_pushed l n 2 p t c running 0) e

pub pop-put : (l : List ℕ) (n p : ℕ) → entry_popped l n p ≡ place_put (put_entry l (3 + 6 * n) no_entry) n p
unfolding entry_popped entry_put put_entry
pop-put l n p = refl
