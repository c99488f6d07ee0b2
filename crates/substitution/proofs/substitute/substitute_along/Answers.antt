-- Invariant: what is left to do, done to the present bytes, gives what was to be done at first, and so with the count of what is
-- replaced and with the array.
use Rattle.std.proofs.Common.{ap, sym, ℕ, Option, length-set, arith}
use mathlib.Core.Path.{subst}
use Rattle.substitution.specs.Path.{Settled, unset}
use Rattle.substitution.proofs.AtomSubstitutionLaws.{not_some}
use Rattle.substitution.proofs.SubstituteAtLaws.{replaced-room, row_all, todo-as, todo-most, todo-next, todo-onward}
use Rattle.substitution.proofs.substitute.substitute_along.Goals as goal

pub step-next-requires : goal.step-next-requires
step-next-requires c =
    let s = todo-as (todo-onward (c.loop-row.invariant.todo c.requires.0 c.requires.1) c.onward.ensures.goes) c.in-At.is in
    (c.args.k, s.term, s.here, subst (Settled c.loop-row.buf) c.in-At.is c.onward.ensures.settled)

pub overflow_add-replaced : goal.overflow_add-replaced
overflow_add-replaced c =
    let s = todo-as (todo-onward (c.loop-row.invariant.todo c.requires.0 c.requires.1) c.onward.ensures.goes) c.in-At.is in
    let v = c.step-next.ensures _ s.term s.here in
    let sum = todo-most s v _ (c.substitute_atom-replaced.ensures v.atom v.here).1 in
    omega (arith, sum, replaced-room c.args.values.now c.requires.1)

pub loop-row-preserved-in-Some : goal.loop-row-preserved-in-Some
loop-row-preserved-in-Some c = record {
  long = simp length-set c.loop-row.invariant.long;
  todo = λ t h.
      let s = todo-as (todo-onward (c.loop-row.invariant.todo t h) c.onward.ensures.goes) c.in-At.is in
      let v = c.step-next.ensures _ s.term s.here in
      let e = c.substitute_atom-replaced.ensures v.atom v.here in
      todo-next s v _ e.1 _ e.0 c.loop-row.invariant.long _ (ap (λ (b : Option ℕ). unset b c.loop-row.values) (sym c.in-Some.is));
}

pub loop-row-preserved : goal.loop-row-preserved
loop-row-preserved c = record {
  long = c.loop-row.invariant.long;
  todo = λ t h.
      let s = todo-as (todo-onward (c.loop-row.invariant.todo t h) c.onward.ensures.goes) c.in-At.is in
      let v = c.step-next.ensures _ s.term s.here in
      let e = c.substitute_atom-replaced.ensures v.atom v.here in
      todo-next s v _ e.1 _ e.0 c.loop-row.invariant.long _ (ap (λ (b : Option ℕ). unset b c.loop-row.values) (sym (not_some _ c.in_default.not-Some)));
}

pub overflow_add-result : goal.overflow_add-result
overflow_add-result c =
    let s = todo-as (todo-onward (c.loop-row.invariant.todo c.requires.0 c.requires.1) c.onward.ensures.goes) c.in-Row.is in
    let e = row_all s _ _ c.substitute_atoms.ensures in
    omega (arith, e.1, replaced-room c.args.values.now c.requires.1)

pub returns-in-Row-clause-substitutes : goal.returns-in-Row-clause-substitutes
returns-in-Row-clause-substitutes c = λ t h.
    let e = row_all (todo-as (todo-onward (c.loop-row.invariant.todo t h) c.onward.ensures.goes) c.in-Row.is) _ _ c.substitute_atoms.ensures in (e.0, e.1)

pub returns-in-Row-clause-leaves : goal.returns-in-Row-clause-leaves
returns-in-Row-clause-leaves c = λ t h.
    (row_all (todo-as (todo-onward (c.loop-row.invariant.todo t h) c.onward.ensures.goes) c.in-Row.is) _ _ c.substitute_atoms.ensures).2
