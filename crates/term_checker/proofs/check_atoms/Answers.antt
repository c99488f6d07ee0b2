use Prim.Native.Nat.{◌*◌, ◌+◌, ◌-◌, suc, ℕ}
use mathlib.Core.Path.{◌≡◌, ap, sym, ◌∙◌}
use mathlib.Core.List.{[]}
use mathlib.Core.Option.{some}
use native.Mathlib.Omega.{arith}
use Rattle.term_checker.specs.TermVerdict.{atoms_rating}
use Rattle.buffer.specs.Slice.{part}
use Rattle.buffer.proofs.SliceLaws.{length_part}
use Rattle.record.specs.Term.{decode_atoms}
use Rattle.record.proofs.TermReadLaws.{decode_atoms-end, decode_atoms-long}
use Rattle.checker.specs.declared.Verdict.TheVariants.{Malformed}
use Rattle.checker.specs.Verdict.{verdict, worse}
use Rattle.checker.proofs.VerdictLaws.{worse-good}
use Rattle.term_checker.proofs.TermOpensLaws.{atoms-malformed, atoms-onward, atoms-turn}
use Rattle.term_checker.proofs.TermVerdictLaws.{none-malformed, none-verdict}
use Rattle.term_checker.proofs.check_atoms.Goals as goal
use Rattle.term_checker.proofs.check_atoms.Goals.{in-Good, in_default}

pub returns-then-end-at : goal.returns-then-end-at
returns-then-end-at c =
    let size = length_part c.args.s.now c.args.at (c.args.end - c.args.at) (omega arith) in
    none-malformed _ (decode_atoms-long c.args.limits.k _ (λ q. c.if-end-at.true (sym size ∙ q)))

pub loop-place-init : goal.loop-place-init
loop-place-init c =
    let a = c.args in
    (a.limits.k, omega arith, ap (λ (m : ℕ). verdict (atoms_rating a.limits.k a.limits.largest) (decode_atoms a.limits.k (part a.s.now a.at m))) c.if-end-at.false)

pub returns-in-Malformed : goal.returns-in-Malformed
returns-in-Malformed c =
    let i = c.loop-place.invariant in
    let e : suc (i.0 - 1) ≡ i.0 = omega arith in
    sym (atoms-malformed _ _ c.args.s.now c.loop-place.place (i.0 - 1) (omega (arith, i.1, e)) _ (rw (← e) at i.2) c.in-Malformed.ensures)

-- Where the walk goes on the atom is not malformed, and what was found counts it.
on : (c : goal.After-after-place) → (c.check_atom.result ≡ Malformed → ⊥) × (c.match-check_atom.found ≡ worse c.loop-place.found c.check_atom.result)
on c = elim c.match-check_atom.branch [
  | in-Good w ↦ (λ q. let good = w.in-Good.is in cc, w.found-is ∙ sym (ap (worse c.loop-place.found) w.in-Good.is ∙ worse-good c.loop-place.found))
  | in_default w ↦ (w.in_default.not-Malformed, w.found-is ∙ w.worst-found.ensures)
]

-- The reader stands at the next atom.
next : (c : goal.After-after-place) → c.after-place.result ≡ c.loop-place.place + 8
next c = c.after-place.ensures ∙ atoms-onward _ _ _ _ _ c.check_atom.ensures (on c).0

pub loop-place-smaller : goal.loop-place-smaller
loop-place-smaller c = omega (arith, next c)

pub loop-place-preserved : goal.loop-place-preserved
loop-place-preserved c =
    let a = c.args in
    let i = c.loop-place.invariant in
    let found = c.match-check_atom.found in
    let e : suc (i.0 - 1) ≡ i.0 = omega arith in
    let turn = atoms-turn _ _ a.s.now c.loop-place.place (i.0 - 1) (omega (arith, i.1, e)) _ _ _ (rw (← e) at i.2) c.check_atom.ensures (on c).1 in
    (i.0 - 1, omega (arith, next c, i.1, e), turn ∙ ap (λ (p : ℕ). worse found (verdict (atoms_rating a.limits.k a.limits.largest) (decode_atoms (i.0 - 1) (part a.s.now p (8 * (i.0 - 1)))))) (sym (next c)))

pub returns : goal.returns
returns c =
    let i = c.loop-place.invariant in
    let z : i.0 ≡ 0 = omega arith in
    let size = length_part c.args.s.now c.loop-place.place (8 * i.0) (omega (arith, i.1)) in
    let e : decode_atoms i.0 (part c.args.s.now c.loop-place.place (8 * i.0)) ≡ some [] = rw z (decode_atoms-end _ (rw z at (size) ∙ omega arith)) in
    sym (i.2 ∙ ap (worse c.loop-place.found) (none-verdict _ _ _ e) ∙ worse-good c.loop-place.found)
