-- Invariant: the test of what is left of the row comes to what the test of the whole does.
use Rattle.std.proofs.Common.{refl, arith}
use Rattle.substitution.proofs.ClosedLaws.{row-begin, row_done, row_first, row_moved, todo-found, todo-next}
use Rattle.substitution.proofs.closed.closed_atoms.Goals as goal

pub loop-i-init : goal.loop-i-init
loop-i-init c = λ ys h. row_moved (row-begin c.args.bound.now h) (omega arith) (omega arith)

pub closed_atom-requires : goal.closed_atom-requires
closed_atom-requires c =
    let v = row_first (c.loop-i.invariant c.requires.0 c.requires.1) (omega arith) in (v.atom, v.here)

pub returns-then-not-closed_atom : goal.returns-then-not-closed_atom
returns-then-not-closed_atom c = λ ys h.
    let s = c.loop-i.invariant ys h in
    let v = row_first s (omega arith) in
    todo-found s v _ (c.closed_atom.ensures v.atom v.here) c.if-not-closed_atom.true

pub loop-i-preserved : goal.loop-i-preserved
loop-i-preserved c = λ ys h.
    let s = c.loop-i.invariant ys h in
    let v = row_first s (omega arith) in
    row_moved (todo-next s v _ (c.closed_atom.ensures v.atom v.here) c.if-not-closed_atom.false (omega arith) _ refl) (omega arith) (omega arith)

pub returns : goal.returns
returns c = λ ys h. row_done (c.loop-i.invariant ys h) (omega arith)
