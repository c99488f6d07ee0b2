-- Two lists that have nothing in common, proved: each engine stands as many steps from the same start as its total says.
use Prim.Native.Nat.{ℕ}
use mathlib.Core.Path.{ap, subst, sym, ◌∙◌, ◌≡◌}
use mathlib.Core.Logic.{inl, inr, ◌⊎◌}
use mathlib.Core.Bool.{Bool}
use mathlib.Core.List.{List}
use mathlib.Core.Option.{some-injective, some}
use Rattle.agreement.specs.Demand3.{Finished, FinishedTerm, Start, start_world}
use Rattle.agreement.specs.Orders.{AllAllowed, Order, Stepper, World, play, reduces, steps}
use Rattle.agreement.proofs.Demand3Laws.{accepted-program, block_held, config-reached, first, held, held-words, list-stands, same-config}
use Rattle.agreement.proofs.Play.{StandsFrom}
use Rattle.agreement.proofs.SameReplacedLaws.{same-replaced, start-starts}
use Rattle.agreement.specs.SameReplaced.{SameReplaced, StartsFrom}
use Rattle.record.specs.declared.Conversion.TheVariants.{ToFirst, ToSecond}
use Rattle.record.specs.declared.Header.{Header}
use Rattle.record.specs.Header.{encode_program, ok_of}
use Rattle.record.specs.Term.{TermWords}
use Rattle.record.proofs.ConvertedLaws.{converted-ok}
use Rattle.record.proofs.EditionLaws.{k-converted}
use Rattle.record.proofs.HoldingLaws.{term-words}
use Rattle.rules.specs.Reduction.{reduce}
use Rattle.rules.specs.Run.{iterate}
use Rattle.rules.specs.Step.{step}
use Rattle.rules.specs.Substitution.{state_of}
use Rattle.rules.specs.Syntax.{Answer, Block, Config, Term, over}
use Rattle.rules.proofs.FinishedLaws.{reduce-finished, step-finished}
use Rattle.rules.proofs.RestLaws.{Rests, rests-finished, rests-once, rests-over}
use Rattle.editions.specs.SameEnds.{ReducerEnds, SameEnds, StepperEnds, new, old}

-- an end is a state that makes no further step
step-rests : (ok : ℕ → Bool) (c : Config) → Finished c.block ⊎ (step ok c ≡ over) → Rests (step ok c)
step-rests ok c (inl e) = rests-finished (step ok c) ((step-finished ok c).1 e)
step-rests ok c (inr e) = rests-over (step ok c) e

reduce-rests : (ok : ℕ → Bool) (t : Term) → FinishedTerm t ⊎ (reduce ok t ≡ over) → Rests (reduce ok t)
reduce-rests ok t (inl e) = rests-finished (reduce ok t) ((reduce-finished ok t).1 e)
reduce-rests ok t (inr e) = rests-over (reduce ok t) e

-- ONE MACHINE, two numbers of steps from one state
module _ {A : Type 0} (f : (ℕ → Bool) → A → Answer A) (ok ok' : ℕ → Bool) (is : ok' ≡ ok) (start a b : A) (m n : ℕ) (to-a : iterate (f ok) m start ≡ some a) (to-b : iterate (f ok') n start ≡ some b) where
  there : iterate (f ok) n start ≡ some b
  there = ap (λ (x : ℕ → Bool). iterate (f x) n start) (sym is) ∙ to-b

  at-total : n ≡ m → b ≡ a
  at-total e = some-injective b a (sym there ∙ ap (λ (i : ℕ). iterate (f ok) i start) e ∙ to-a)

  at-end : Rests (f ok a) → Rests (f ok' b) → n ≡ m
  at-end p q = sym (rests-once (f ok) start a b m n to-a there p (subst (λ (x : ℕ → Bool). Rests (f x b)) is q))

module _ (h : Header) (P : Block) (μ : List ℕ) (s : Start (old h) P μ) (r : Start (new h) P μ) (os ps : List Order)
    (a : AllAllowed (old h) (encode_program (old h) P) os) (b : AllAllowed (new h) (encode_program (new h) P) ps) where
  abbrev w : World
  w = play (start_world (old h) P μ s) os

  abbrev v : World
  v = play (start_world (new h) P μ r) ps

  abbrev c₀ : Config
  c₀ = record { block = P; store = μ }

  ok_same : ok_of (new h) ≡ ok_of (old h)
  ok_same = converted-ok ToSecond ToFirst h h

  k-same : (new h).k ≡ (old h).k
  k-same = k-converted ToSecond h ∙ sym (k-converted ToFirst h)

  -- either stepper
  module _ (e : Stepper) where
    abbrev c : Config
    c = held (old h) P μ (accepted-program (old h) P μ s) (first (old h) P μ s) w (list-stands (old h) P μ s os a) e

    abbrev d : Config
    d = held (new h) P μ (accepted-program (new h) P μ r) (first (new h) P μ r) v (list-stands (new h) P μ r ps b) e

    to-c : iterate (step (ok_of (old h))) (w (steps e)).total c₀ ≡ some c
    to-c =
        config-reached (old h) P μ (accepted-program (old h) P μ s) (first (old h) P μ s) w (list-stands (old h) P μ s os a) e
        ∙ ap (λ (x : Config). some x) (same-config (old h) P μ (accepted-program (old h) P μ s) (first (old h) P μ s) w (list-stands (old h) P μ s os a) e)

    to-d : iterate (step (ok_of (new h))) (v (steps e)).total c₀ ≡ some d
    to-d =
        config-reached (new h) P μ (accepted-program (new h) P μ r) (first (new h) P μ r) v (list-stands (new h) P μ r ps b) e
        ∙ ap (λ (x : Config). some x) (same-config (new h) P μ (accepted-program (new h) P μ r) (first (new h) P μ r) v (list-stands (new h) P μ r ps b) e)

    stepper-ends : StepperEnds h P e w v
    stepper-ends = record {
      Q = c.block;
      R = d.block;
      holds = block_held (old h) P μ (accepted-program (old h) P μ s) (first (old h) P μ s) w (list-stands (old h) P μ s os a) e;
      holds_moved = block_held (new h) P μ (accepted-program (new h) P μ r) (first (new h) P μ r) v (list-stands (new h) P μ r ps b) e;
      words = held-words (old h) P μ (accepted-program (old h) P μ s) (first (old h) P μ s) w (list-stands (old h) P μ s os a) e;
      words_moved = held-words (new h) P μ (accepted-program (new h) P μ r) (first (new h) P μ r) v (list-stands (new h) P μ r ps b) e;
      at_total = λ q.
          let x = at-total step (ok_of (old h)) (ok_of (new h)) ok_same c₀ c d (w (steps e)).total (v (steps e)).total to-c to-d q in
          (ap (λ (y : Config). y.block) x, ap (λ (y : Config). y.store) x);
      at_end = λ p q. at-end step (ok_of (old h)) (ok_of (new h)) ok_same c₀ c d (w (steps e)).total (v (steps e)).total to-c to-d
          (step-rests (ok_of (old h)) c p) (step-rests (ok_of (new h)) d q);
    }

  -- the reducer
  abbrev t₀ : Term
  t₀ = state_of (old h).k c₀

  abbrev here : StandsFrom (old h) P μ (accepted-program (old h) P μ s) reduces w
  here = list-stands (old h) P μ s os a reduces

  abbrev far : StandsFrom (new h) P μ (accepted-program (new h) P μ r) reduces v
  far = list-stands (new h) P μ r ps b reduces

  to-u : iterate (reduce (ok_of (new h))) (v reduces).total t₀ ≡ some far.state
  to-u = ap (λ (k : ℕ). iterate (reduce (ok_of (new h))) (v reduces).total (state_of k c₀)) (sym k-same) ∙ far.reached

  reducer-ends : ReducerEnds h w v
  reducer-ends = record {
    t = here.state;
    u = far.state;
    holds = here.holds.term.bytes;
    holds_moved = far.holds.term.bytes;
    words = subst (λ (k : ℕ). TermWords k here.state) (k-converted ToFirst h) (term-words here.holds.term);
    words_moved = subst (λ (k : ℕ). TermWords k far.state) (k-converted ToSecond h) (term-words far.holds.term);
    at_total = λ q. (
      at-total reduce (ok_of (old h)) (ok_of (new h)) ok_same t₀ here.state far.state (w reduces).total (v reduces).total here.reached to-u q,
      replaced q,
    );
    at_end = λ p q. at-end reduce (ok_of (old h)) (ok_of (new h)) ok_same t₀ here.state far.state (w reduces).total (v reduces).total here.reached to-u
        (reduce-rests (ok_of (old h)) here.state p) (reduce-rests (ok_of (new h)) far.state q);
  }
    where
      replaced : (v reduces).total ≡ (w reduces).total → (v reduces).memory.replaced ≡ (w reduces).memory.replaced
      replaced q =
          unfold SameReplaced in
          (same-replaced (new h) (old h) t₀ (start_world (new h) P μ r) (start_world (old h) P μ s)
          (subst (λ (k : ℕ). StartsFrom (new h) (state_of k c₀) (start_world (new h) P μ r)) k-same (start-starts (new h) P μ r))
          (start-starts (old h) P μ s) ps os q)

pub same_ends : SameEnds
unfolding SameEnds
same_ends h P μ s r os ps a b w v is is' =
    subst (λ (x : World). ((e : Stepper) → StepperEnds h P e x v) × ReducerEnds h x v) (sym is)
    (subst (λ (y : World). ((e : Stepper) → StepperEnds h P e (play (start_world (old h) P μ s) os) y) × ReducerEnds h (play (start_world (old h) P μ s) os) y) (sym is')
    ((λ e. stepper-ends h P μ s r os ps a b e), reducer-ends h P μ s r os ps a b))
