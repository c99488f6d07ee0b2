-- THE WAYS OF A LOOP AT NO PLACE IN ITS BODY, by what is read of its entry.
use Prim.Native.Nat.{◌*◌, ◌+◌, suc, zero, ℕ}
use mathlib.Core.Path.{ap, refl, sym, ◌∙◌, ◌≡◌}
use mathlib.Core.List.{List}
use lib.ListN.{get_or, length, set}
use native.Mathlib.Omega.{arith}
use Rattle.record.specs.Program.{block_size}
use Rattle.rules.specs.Store.{update}
use Rattle.rules.specs.Syntax.{Block, Bound, loop}
use Rattle.counting.specs.CountStep.{step_state, turn_done}
use Rattle.counting.specs.Counting.{State, at_zero, here, in_body, storing, unrolling}
use Rattle.counting.specs.Depth.{open_count}
use Rattle.counting.specs.Entries.{Entry, within}
use Rattle.counting.specs.Frames.{place_mark, place_word}
use Rattle.counting.specs.Held.{body_mark, held_loop}
use Rattle.counting.specs.Place.{body_at}
use Rattle.counting.proofs.EntriesLaws.{within-next}
use Rattle.counting.proofs.InnermostEdits.{words-at_zero}
use Rattle.counting.proofs.StepEdits as edits
use Rattle.counting.proofs.WordEdits.{no_entry, put_entry}
use Rattle.state_words.specs.Entry.{entry_popped}
use Rattle.count_step.specs.Inner.{Inner, Shut, shut_at_zero, shut_storing, shut_unrolling}
use Rattle.count_step.specs.Makes.{Makes}
use Rattle.count_step.specs.Words.{body_words, first_words, unrolled_by, unrolled_words}
use Rattle.count_step.proofs.AroundLaws.{read-at_zero, read-storing, read-unrolling}
use Rattle.count_step.proofs.WayLaws.{makes-by, open_none, open-one, pop-moved}

-- one and the same number is not 1 and 0
one-zero : (n : ℕ) {A : Type 0} → n ≡ 1 → n ≡ 0 → A
one-zero n e f = let z : ◌≡◌ {A = ℕ} 1 0 = sym e ∙ f in absurd (omega arith)

module _ {start used n : ℕ} {P : Block} {es : List Entry} {i x : ℕ} {m : Bound} {q r : Block} {buf words : List ℕ} {count : ℕ} where
  -- unrolling
  pub way-unroll : {t : State} → Shut x q r t → Inner start used n P es i (loop x m q r) t buf words count → (store ws after : List ℕ) → get_or words (3 + 6 * length es + 4) 0 ≡ 0
      → ws ≡ unrolled_words words (length es) → after ≡ store → Makes P (within es t) store ws after n
  unfolding held_loop unrolled_by open_count
  way-unroll (shut_unrolling c d) h store ws after z w a = by_count c h (w ∙ by_read) a
    where
      by_read : unrolled_words words (length es) ≡ unrolled_by c words (length es)
      by_read = unfold unrolled_words in (ap (λ (y : ℕ). unrolled_by y words (length es)) (read-unrolling h).reached)

      by_count : (c : ℕ) → Inner start used n P es i (loop x m q r) (unrolling x c d q r) buf words count → ws ≡ unrolled_by c words (length es) → after ≡ store → Makes P (within es (unrolling x c d q r)) store ws after n
      by_count zero h w a =
          makes-by P (within es (unrolling x 0 d q r)) store ws after n (within es (at_zero x d q r)) store
          (λ ok g f. within-next ok store es (unrolling x 0 d q r) (at_zero x d q r) store (unfold step_state in refl))
          (w ∙ ap (λ (z : List ℕ). set z (3 + 6 * length es + 4) 1) h.holds.same ∙ edits.unrolled-0 P es i x m q r h.place d)
          a ((read-unrolling h).count ∙ sym (open-one es (at_zero x d q r) refl))
      by_count (suc c) h w a =
          makes-by P (within es (unrolling x (suc c) d q r)) store ws after n (within es (unrolling x c (suc d) q r)) store
          (λ ok g f. within-next ok store es (unrolling x (suc c) d q r) (unrolling x c (suc d) q r) store (unfold step_state in refl))
          (w ∙ ap (λ (z : List ℕ). set z (3 + 6 * length es + 3) c) h.holds.same ∙ edits.unrolled P es i x m q r h.place c d)
          a ((read-unrolling h).count ∙ sym (open-one es (unrolling x c (suc d) q r) refl))
  way-unroll (shut_at_zero d) h store ws after z w a = one-zero (get_or words (3 + 6 * length es + 4) 0) (read-at_zero h).running z
  way-unroll (shut_storing c d l) h store ws after z w a = one-zero (get_or words (3 + 6 * length es + 4) 0) (read-storing h).running z

  -- running at 0: the first turn, or none
  pub way-first : {t : State} → Shut x q r t → Inner start used n P es i (loop x m q r) t buf words count → (store ws after : List ℕ) → (get_or words (3 + 6 * length es + 4) 0 ≡ 0 → ⊥)
      → get_or words (3 + 6 * length es + 5) 0 ≡ 0 → (get_or words (3 + 6 * length es + 2) 0 ≡ 0 → ⊥) → ws ≡ first_words words (length es) → after ≡ store → Makes P (within es t) store ws after n
  unfolding held_loop first_words open_count
  way-first (shut_unrolling c d) h store ws after f z g w a = absurd (f (read-unrolling h).running)
  way-first (shut_at_zero d) h store ws after f z g w a = by-turns d h (λ e. g ((read-at_zero h).top ∙ (omega arith))) w a
    where
      by-turns : (d : ℕ) → Inner start used n P es i (loop x m q r) (at_zero x d q r) buf words count → (d ≡ 0 → ⊥) → ws ≡ first_words words (length es) → after ≡ store → Makes P (within es (at_zero x d q r)) store ws after n
      by-turns zero h g w a = absurd (g refl)
      by-turns (suc d) h g w a =
          makes-by P (within es (at_zero x (suc d) q r)) store ws after n (within es (storing x 1 d q r)) store
          (λ ok k f. within-next ok store es (at_zero x (suc d) q r) (storing x 1 d q r) store (unfold step_state turn_done in refl))
          (w ∙ ap (λ (z : List ℕ). set (set z (3 + 6 * length es + 3) 1) (3 + 6 * length es + 5) 1) h.holds.same ∙ edits.first-turn P es i x m q r h.place d)
          a ((read-at_zero h).count ∙ sym (open-one es (storing x 1 d q r) refl))
  way-first (shut_storing c d l) h store ws after f z g w a = one-zero (get_or words (3 + 6 * length es + 5) 0) (read-storing h).progress z

  pub way-no-turn : {t : State} → Shut x q r t → Inner start used n P es i (loop x m q r) t buf words count → (store ws after : List ℕ) → (get_or words (3 + 6 * length es + 4) 0 ≡ 0 → ⊥)
      → get_or words (3 + 6 * length es + 5) 0 ≡ 0 → get_or words (3 + 6 * length es + 2) 0 ≡ 0 → ws ≡ entry_popped words (length es) (i + (20 + block_size q)) → after ≡ store
      → Makes P (within es t) store ws after (length es)
  unfolding held_loop open_count
  way-no-turn (shut_unrolling c d) h store ws after f z g w a = absurd (f (read-unrolling h).running)
  way-no-turn (shut_at_zero d) h store ws after f z g w a = by-turns d h (omega (arith, (read-at_zero h).top, g)) w a
    where
      by-turns : (d : ℕ) → Inner start used n P es i (loop x m q r) (at_zero x d q r) buf words count → d ≡ 0 → ws ≡ entry_popped words (length es) (i + (20 + block_size q)) → after ≡ store
          → Makes P (within es (at_zero x d q r)) store ws after (length es)
      by-turns zero h g w a =
          makes-by P (within es (at_zero x 0 q r)) store ws after (length es) (within es (here r)) store
          (λ ok k f. within-next ok store es (at_zero x 0 q r) (here r) store (unfold step_state turn_done in refl))
          (w ∙ pop-moved P es i (held_loop i 0 0 1 0) words (read-at_zero h).few (h.holds.same ∙ words-at_zero P es i x m q r h.place 0) (i + (20 + block_size q))
          ∙ ap (λ (z : List ℕ). set (put_entry z (3 + 6 * length es) no_entry) (place_word (length es)) (place_mark es (i + (20 + block_size q)))) h.holds.same
          ∙ edits.no-turn P es i x m q r h.place (read-at_zero h).few)
          a (sym (open_none es (here r) refl))
      by-turns (suc d) h g w a = absurd (omega arith)
  way-no-turn (shut_storing c d l) h store ws after f z g w a = one-zero (get_or words (3 + 6 * length es + 5) 0) (read-storing h).progress z

  -- the index is stored
  pub way-index : {t : State} → Shut x q r t → Inner start used n P es i (loop x m q r) t buf words count → (store ws after : List ℕ) → (get_or words (3 + 6 * length es + 4) 0 ≡ 0 → ⊥)
      → (get_or words (3 + 6 * length es + 5) 0 ≡ 0 → ⊥) → ws ≡ body_words words (length es) (i + 20) → after ≡ update store x (get_or words (3 + 6 * length es + 3) 0) → Makes P (within es t) store ws after n
  unfolding held_loop body_words open_count
  way-index (shut_unrolling c d) h store ws after f g w a = absurd (f (read-unrolling h).running)
  way-index (shut_at_zero d) h store ws after f g w a = absurd (g (read-at_zero h).progress)
  way-index (shut_storing c d l) h store ws after f g w a =
      makes-by P (within es (storing x c d q r)) store ws after n (within es (in_body x c d q (here q) r)) (update store x c)
      (λ ok k f. within-next ok store es (storing x c d q r) (in_body x c d q (here q) r) (update store x c) (unfold step_state in refl))
      (w ∙ ap (λ (z : List ℕ). set z (3 + 6 * length es + 5) (body_mark (body_at i))) h.holds.same ∙ edits.index-stored P es i x m q r h.place c d)
      (a ∙ ap (update store x) (read-storing h).reached)
      ((read-storing h).count ∙ sym (open-one es (in_body x c d q (here q) r) refl))
