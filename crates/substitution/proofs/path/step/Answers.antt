-- Each arm is a law of the path.
use Rattle.std.proofs.Common.{arith, sym, ◌∙◌}
use Rattle.record.proofs.KindLaws.{named-number}
use Rattle.substitution.specs.declared.path.Path.TheVariants.{At}
use Rattle.substitution.proofs.PathLaws.{begin, step-let_one, step-rec}
use Rattle.substitution.proofs.RangedLaws.{else-rec, ranged-let_one, ranged-room}
use Rattle.substitution.proofs.path.step.Goals as goal

pub read-requires : goal.read-requires
read-requires c = let r = ranged-room c.requires.2 in omega arith

pub bound_atom-at-requires : goal.bound_atom-at-requires
bound_atom-at-requires c = (c.requires.0, (c.requires.1, (ranged-let_one c.requires.2 (named-number c.in-LetOne.ensures)).view))

pub get_u32-x-requires : goal.get_u32-x-requires
get_u32-x-requires c =
    let v = ranged-let_one c.requires.2 (named-number c.in-LetOne.ensures) in omega (arith, v.high, v.room)

pub overflow_add-result : goal.overflow_add-result
overflow_add-result c =
    let v = ranged-let_one c.requires.2 (named-number c.in-LetOne.ensures) in omega (arith, v.room, c.bound_atom-at.ensures _ _ v.view)

pub returns-in-LetOne : goal.returns-in-LetOne
returns-in-LetOne c = λ k t h.
    let o = begin {from = At c.args.p} h in
    let v = ranged-let_one o.here (named-number c.in-LetOne.ensures) in
    step-let_one o v _ _ (c.bound_atom-at.ensures _ _ v.view) c.get_u32-x.ensures

pub returns : goal.returns
returns c = λ k t h.
    let o = begin {from = At c.args.p} h in
    let s = c.requires.3 in
    step-rec o (else-rec o.here c.read.ensures (λ e. s.0 (named-number (sym e ∙ c.read.ensures))) c.in_default.not-LetOne (λ e. s.1 (named-number (sym e ∙ c.read.ensures))))
