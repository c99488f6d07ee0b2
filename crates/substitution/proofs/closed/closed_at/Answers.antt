-- Invariant: the test of what is left, under the present marks, comes to what the test of the whole does.
use Rattle.std.proofs.Common.{ap, sym, ℕ, Option, length-set}
use mathlib.Core.Path.{subst}
use Rattle.substitution.specs.Path.{Settled}
use Rattle.substitution.proofs.AtomSubstitutionLaws.{not_some}
use Rattle.substitution.proofs.ClosedLaws.{length-unmarked, marking, row_all, todo-as, todo-begin, todo-next, todo-onward, unmarked}
use Rattle.substitution.proofs.closed.closed_at.Goals as goal

pub loop-row-init : goal.loop-row-init
unfolding unmarked
loop-row-init c = record { long = length-unmarked; todo = λ t h. todo-begin h }

pub step-next-requires : goal.step-next-requires
step-next-requires c =
    let s = todo-as (todo-onward (c.loop-row.invariant.todo c.requires.0 c.requires.1) c.onward.ensures.goes) c.in-At.is in
    (c.args.k, s.term, s.here, subst (Settled c.args.buf.now) c.in-At.is c.onward.ensures.settled)

pub loop-row-preserved-in-Some : goal.loop-row-preserved-in-Some
loop-row-preserved-in-Some c = record {
  long = simp length-set c.loop-row.invariant.long;
  todo = λ t h.
      let s = todo-as (todo-onward (c.loop-row.invariant.todo t h) c.onward.ensures.goes) c.in-At.is in
      let v = c.step-next.ensures _ s.term s.here in
      todo-next s v _ (c.closed_atom.ensures v.atom v.here) c.if-not-closed_atom.false c.loop-row.invariant.long _ (ap (λ (b : Option ℕ). marking b c.loop-row.bound) (sym c.in-Some.is));
}

pub loop-row-preserved : goal.loop-row-preserved
loop-row-preserved c = record {
  long = c.loop-row.invariant.long;
  todo = λ t h.
      let s = todo-as (todo-onward (c.loop-row.invariant.todo t h) c.onward.ensures.goes) c.in-At.is in
      let v = c.step-next.ensures _ s.term s.here in
      todo-next s v _ (c.closed_atom.ensures v.atom v.here) c.if-not-closed_atom.false c.loop-row.invariant.long _ (ap (λ (b : Option ℕ). marking b c.loop-row.bound) (sym (not_some _ c.in_default.not-Some)));
}

pub returns-in-Row : goal.returns-in-Row
returns-in-Row c = λ t h. row_all (todo-as (todo-onward (c.loop-row.invariant.todo t h) c.onward.ensures.goes) c.in-Row.is) _ c.closed_atoms.ensures
