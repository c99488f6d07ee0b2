-- A turn of each loop that writes a part of the line: what is still to be written into the slice as it is now gives what was
-- to be written at first.
use Prim.Native.Nat.{◌%◌, ◌+◌, ◌-◌, ◌/◌, ◌<◌, ◌≤◌, ℕ}
use mathlib.Core.Path.{◌≡◌, ap, refl, sym, ◌∙◌}
use mathlib.Core.List.{◌++◌, List, [], ◌∷◌, append_assoc}
use native.Mathlib.Omega.{arith}
use native.Mathlib.Numerals.{add-one}
use lib.ListN.{drop, get_or, length, length-append, set, take}
use lib.Seq.{drop-cons, drop-length, take_at, take-length}
use Rattle.buffer.specs.Slice.{part, put}
use Rattle.buffer.proofs.SliceLaws.{length-put, put-nil, put-put, put-put-front, put-sets}
use Rattle.buffer.proofs.StoresLaws.{stores-2, stores-4}
use Rattle.rules.specs.Run.{refused}
use Rattle.run.specs.RunAnswer.{RunAnswer}
use Rattle.print.specs.Decimal.{decimal, digit}
use Rattle.print.specs.Words.{outcome_word, ran_line, refused_line, spaced, spaced_all}
use Rattle.print.proofs.DecimalLaws.{decimal-large, decimal-small, digits_more, digits_one, digits-large, digits-small, digits-some}

-- The last digit of n is written, those of n / 10 in front of it are still to be.
pub digit-turn : (l : List ℕ) (at place n : ℕ) → 10 ≤ n → place + 1 ≡ at + length (decimal n) → place < length l
    → put (set l place (48 + n % 10)) at (decimal (n / 10)) ≡ put l at (decimal n)
unfolding digit
digit-turn l at place n h e b =
    let k = digits-large n h in
    ap (λ (m : List ℕ). put m at (decimal (n / 10))) (put-sets l place ((48 + n % 10) ∷ []) (omega arith))
    ∙ put-put-front l (decimal (n / 10)) ((48 + n % 10) ∷ []) at place (omega arith) (omega arith)
    ∙ ap (put l at) (sym (decimal-large n h))

-- The first digit.
pub digit-last : (l : List ℕ) (at place n : ℕ) → n < 10 → place + 1 ≡ at + length (decimal n) → place < length l
    → set l place (48 + n) ≡ put l at (decimal n)
unfolding digit
digit-last l at place n h e b =
    let k = digits-small n h in
    let p : place ≡ at = omega arith in
    put-sets l place ((48 + n) ∷ []) (omega arith) ∙ ap (λ (j : ℕ). put l j ((48 + n) ∷ [])) p ∙ ap (put l at) (sym (decimal-small n h))

-- What stands before a turn of the loop that writes the digits into l from the last on, down to `place`: left is still to be written,
-- and all is what the loop makes.
pub record Written (at place left : ℕ) (l all : List ℕ) : Type 0 where
  pub more : at < place → (place ≡ at + length (decimal left)) × (put l at (decimal left) ≡ all)
  pub done : place ≤ at → l ≡ all

pub written_turn : (at place left : ℕ) (l all : List ℕ) → at < place → place ≤ length l → Written at place left l all
    → Written at (place - 1) (left / 10) (set l (place - 1) (48 + left % 10)) all
written_turn at place left l all h b w =
    let m = w.more h in
    record {
      more = λ p.
          let s = digits_more left (omega (arith, m.0)) in
          let k = digits-large left s in
          (omega (arith, m.0), digit-turn l at (place - 1) left s (omega (arith, m.0)) (omega arith) ∙ m.1);
      done = λ p.
          let s = digits_one left (omega (arith, m.0)) in
          let k = digits-small left s in
          let r : left % 10 ≡ left = omega arith in
          rw r (digit-last l at (place - 1) left s (omega (arith, m.0)) (omega arith) ∙ m.1);
    }

pub written_none : (at place n : ℕ) (l : List ℕ) → place ≡ at + length (decimal n) → Written at place n l (put l at (decimal n))
written_none at place n l e = record { more = λ p. (e, refl); done = λ p. absurd (omega (arith, digits-some n)) }

-- The digit that is left when the loop is done, at the first place.
pub written_last : (at place left : ℕ) (l all : List ℕ) → at < place → place ≤ at + 1 → at < length l → Written at place left l all
    → (left < 10) × (set l at (48 + left) ≡ all)
written_last at place left l all h e b w =
    let m = w.more h in
    let s = digits_one left (omega (arith, m.0)) in
    let k = digits-small left s in
    (s, digit-last l at at left s (omega (arith, k)) b ∙ m.1)

-- A space and the number behind it.
pub spaced-put : (l : List ℕ) (at n : ℕ) → at < length l → put (set l at 32) (at + 1) (decimal n) ≡ put l at (spaced n)
unfolding spaced
spaced-put l at n b =
    ap (λ (m : List ℕ). put m (at + 1) (decimal n)) (put-sets l at (32 ∷ []) (omega arith)) ∙ put-put l (32 ∷ []) (decimal n) at (at + 1) refl (omega arith)

pub length-spaced : (n : ℕ) → length (spaced n) ≡ 1 + length (decimal n)
unfolding spaced
length-spaced n = omega arith

-- The values from number i on.
values-from : (vs : List ℕ) (i : ℕ) → i < length vs → spaced_all (drop i vs) ≡ spaced (get_or vs i 0) ++ spaced_all (drop (i + 1) vs)
unfolding spaced_all
values-from vs i h = rw (add-one i, drop-cons vs i 0 h) refl

pub values_length : (vs : List ℕ) (i : ℕ) → i < length vs
    → length (spaced_all (drop i vs)) ≡ length (spaced (get_or vs i 0)) + length (spaced_all (drop (i + 1) vs))
values_length vs i h = ap (length {A = ℕ}) (values-from vs i h) ∙ length-append (spaced (get_or vs i 0)) (spaced_all (drop (i + 1) vs))

-- One value is written, those behind it are still to be.
pub values-turn : (l l₁ vs : List ℕ) (place next i : ℕ) → i < length vs → l₁ ≡ put l place (spaced (get_or vs i 0))
    → next ≡ place + length (spaced (get_or vs i 0)) → next ≤ length l
    → put l₁ next (spaced_all (drop (i + 1) vs)) ≡ put l place (spaced_all (drop i vs))
values-turn l l₁ vs place next i h e n b =
    ap (λ (m : List ℕ). put m next (spaced_all (drop (i + 1) vs))) e
    ∙ put-put l (spaced (get_or vs i 0)) (spaced_all (drop (i + 1) vs)) place next (sym n) b ∙ ap (put l place) (sym (values-from vs i h))

-- None is left.
pub values-none : (vs : List ℕ) (i : ℕ) → i ≡ length vs → spaced_all (drop i vs) ≡ []
unfolding spaced_all
values-none vs i e = ap (λ (j : ℕ). spaced_all (drop j vs)) e ∙ ap spaced_all (drop-length vs)

pub values-done : (l vs : List ℕ) (place i : ℕ) → i ≡ length vs → put l place (spaced_all (drop i vs)) ≡ l
values-done l vs place i e = ap (put l place) (values-none vs i e) ∙ put-nil l place

pub part-whole : (l : List ℕ) → part l 0 (length l) ≡ l
unfolding part
part-whole l = take-length l

-- THE LINE, as neighbouring stores from the slice's start. Its first n bytes are read back.

take_put : (l vs : List ℕ) (n : ℕ) → n ≡ length vs → take n (put l 0 vs) ≡ vs
unfolding put
take_put l vs n e = take_at vs (drop (0 + length vs) l) n (sym e)

end-put : (l l₁ vs : List ℕ) (at c : ℕ) → l₁ ≡ put l 0 vs → at ≡ length vs → at < length l
    → take (at + 1) (set l₁ at c) ≡ vs ++ (c ∷ [])
end-put l l₁ vs at c e n b =
    let k : length l₁ ≡ length l = ap (length {A = ℕ}) e ∙ length-put l vs 0 (omega arith) in
    let s : set l₁ at c ≡ put l 0 (vs ++ (c ∷ [])) = stores-2 l l₁ (set l₁ at c) vs (c ∷ []) 0 at e (put-sets l₁ at (c ∷ []) (omega arith)) (omega arith) (omega arith) in
    ap (take (at + 1)) s ∙ take_put l (vs ++ (c ∷ [])) (at + 1) (omega (arith, length-append vs (c ∷ [])))

pub refused-put : (l l₁ : List ℕ) (end n : ℕ) → l₁ ≡ put l 0 (outcome_word refused ++ spaced n) → end ≡ 0 + length (outcome_word refused ++ spaced n) → end < length l
    → take (end + 1) (set l₁ end 10) ≡ refused_line n
unfolding refused_line
refused-put l l₁ end n e k b =
    end-put l l₁ (outcome_word refused ++ spaced n) end 10 e (omega arith) b ∙ append_assoc (outcome_word refused) (spaced n) (10 ∷ [])

pub ran-put : (l l₁ l₂ l₃ : List ℕ) (s r : RunAnswer) (store : List ℕ) (first second end : ℕ)
    → l₁ ≡ put l 0 (outcome_word s.outcome ++ spaced s.steps) → first ≡ 0 + length (outcome_word s.outcome ++ spaced s.steps)
    → l₂ ≡ put (set l₁ first 32) (first + 1) (outcome_word r.outcome ++ spaced r.steps)
    → second ≡ first + 1 + length (outcome_word r.outcome ++ spaced r.steps)
    → l₃ ≡ put l₂ second (spaced_all store) → end ≡ second + length (spaced_all store) → end < length l
    → take (end + 1) (set l₃ end 10) ≡ ran_line s r store
unfolding ran_line
ran-put l l₁ l₂ l₃ s r store first second end e₁ n₁ e₂ n₂ e₃ n₃ b =
    let a : List ℕ = outcome_word s.outcome ++ spaced s.steps in
    let c : List ℕ = outcome_word r.outcome ++ spaced r.steps in
    let k : length l₁ ≡ length l = ap (length {A = ℕ}) e₁ ∙ length-put l a 0 (omega arith) in
    let m : set l₁ first 32 ≡ put l₁ first (32 ∷ []) = put-sets l₁ first (32 ∷ []) (omega arith) in
    let w : l₃ ≡ put l 0 (a ++ ((32 ∷ []) ++ (c ++ spaced_all store))) =
    stores-4 l l₁ (set l₁ first 32) l₂ l₃ a (32 ∷ []) c (spaced_all store) 0 first (first + 1) second e₁ m e₂ e₃ (sym n₁) refl (sym n₂) (omega arith) in
    let n : length (a ++ ((32 ∷ []) ++ (c ++ spaced_all store))) ≡ length a + (1 + (length c + length (spaced_all store))) = simp length-append (omega arith) in
    end-put l l₃ (a ++ ((32 ∷ []) ++ (c ++ spaced_all store))) end 10 w (omega arith) b ∙ simp append_assoc
