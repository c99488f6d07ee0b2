-- Invariant: what is left to do of the row, done to the present bytes, gives what was to be done at first, and so with the count of what is
-- replaced.
use Rattle.std.proofs.Common.{refl, arith}
use Rattle.record.proofs.SizeLaws.{replaced_atoms-most}
use Rattle.numerals.specs.Values.{substitution_of}
use Rattle.substitution.proofs.SubstituteAtLaws.{row-begin, row_done, row_first, row_moved, todo-most, todo-next}
use Rattle.substitution.proofs.substitute.substitute_atoms.Goals as goal

pub loop-i-init : goal.loop-i-init
loop-i-init c = λ ys h. row_moved (row-begin c.args.values.now h) (omega arith) (omega arith)

pub substitute_atom-replaced-requires : goal.substitute_atom-replaced-requires
substitute_atom-replaced-requires c =
    let v = row_first (c.loop-i.invariant c.requires.0 c.requires.1) (omega arith) in (v.atom, v.here)

pub overflow_add-replaced : goal.overflow_add-replaced
overflow_add-replaced c =
    let s = c.loop-i.invariant c.requires.0 c.requires.1 in
    let v = row_first s (omega arith) in
    let sum = todo-most s v _ (c.substitute_atom-replaced.ensures v.atom v.here).1 in
    omega (arith, sum, replaced_atoms-most (substitution_of c.args.values.now) c.requires.0, c.requires.1.count)

pub loop-i-preserved : goal.loop-i-preserved
loop-i-preserved c = λ ys h.
    let s = c.loop-i.invariant ys h in
    let v = row_first s (omega arith) in
    let e = c.substitute_atom-replaced.ensures v.atom v.here in
    row_moved (todo-next s v _ e.1 _ e.0 (omega arith) _ refl) (omega arith) (omega arith)

pub returns : goal.returns
returns c = λ ys h. row_done (c.loop-i.invariant ys h) (omega arith)
