-- Two lists from one closed term, proved; and that a start of demand 3 is such a start.
use Prim.Native.Nat.{ℕ}
use mathlib.Core.Path.{ap, refl, subst, sym}
use mathlib.Core.List.{List}
use Rattle.record.specs.declared.Header.{Header}
use Rattle.record.specs.Header.{ok_of}
use Rattle.rules.specs.Reduction.{reduce}
use Rattle.rules.specs.Replaced.{ReductionsReplacing, done}
use Rattle.rules.specs.Run.{iterate}
use Rattle.rules.specs.Substitution.{state_of}
use Rattle.rules.specs.Syntax.{Block, Term}
use Rattle.rules.proofs.ReplacedLaws.{replacing-same}
use Rattle.agreement.specs.Demand3.{Start, begun, start_world}
use Rattle.agreement.specs.Orders.{World, play, reduces}
use Rattle.agreement.specs.SameReplaced.{ReplacedByRules, SameReplaced, StartsFrom}
use Rattle.agreement.proofs.Demand3Laws.{reducer-term}
use Rattle.agreement.proofs.Play.{ReducerStands, reducer-stands}

starts : {h : Header} {t : Term} {w : World} → StartsFrom h t w → ReducerStands h t w
unfolding iterate
starts {h} {t} {w} s = record {
  state = t;
  reached = ap (λ n. iterate (reduce (ok_of h)) n t) s.no_steps;
  holds = record {
    term = s.holds;
    counted = subst (λ n. ReductionsReplacing (ok_of h) t (w reduces).total n t) (sym s.none_replaced) (subst (λ i. ReductionsReplacing (ok_of h) t i 0 t) (sym s.no_steps) done);
  };
}

pub replaced-by-rules : ReplacedByRules
unfolding ReplacedByRules
replaced-by-rules h t w s os =
    let left = reducer-stands h t os w (starts s) in
    (left.state, left.holds.counted, left.holds.term)

pub same-replaced : SameReplaced
unfolding SameReplaced ReplacedByRules
same-replaced h g t w v s r os ps e =
    let one = replaced-by-rules h t w s os in
    let two = replaced-by-rules g t v r ps in
    replacing-same (subst (λ i. ReductionsReplacing (ok_of h) t i (play w os reduces).memory.replaced one.0) e one.1) two.1

-- the start's own substitution is in no total
pub start-starts : (h : Header) (P : Block) (μ : List ℕ) (s : Start h P μ) → StartsFrom h (state_of h.k (record { block = P; store = μ })) (start_world h P μ s)
unfolding begun
start-starts h P μ s = record { holds = reducer-term h P μ s; no_steps = refl; none_replaced = refl }
