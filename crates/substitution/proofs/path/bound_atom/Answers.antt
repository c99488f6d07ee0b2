-- By the kind of what is bound.
use Rattle.std.proofs.Common.{sym, ◌∙◌, arith}
use mathlib.Core.Logic.{inl, inr}
use Rattle.place.proofs.TermBytesLaws.{simple-high, simple-low}
use Rattle.record.proofs.KindLaws.{named-number, not-number}
use Rattle.record.specs.declared.kind.Kind.TheVariants.{Pred, Succ}
use Rattle.substitution.proofs.RangedLaws.{kind-low}
use Rattle.substitution.proofs.path.bound_atom.Goals as goal

pub returns-in-Succ : goal.returns-in-Succ
returns-in-Succ c = λ k t v. elim c.in-Succ.is [
  | inl e ↦ let n = named-number (sym e ∙ c.read.ensures) in omega (arith, simple-high v.bound (omega (arith, v.kind-read)))
  | inr e ↦ let n = named-number (sym e ∙ c.read.ensures) in omega (arith, simple-high v.bound (omega (arith, v.kind-read)))
]

pub returns-in_default : goal.returns-in_default
returns-in_default c = λ k t v.
    let n = kind-low v.bound (λ e. not-number Succ tt c.read.ensures c.in_default.not-Succ (v.kind-read ∙ e)) (λ e. not-number Pred tt c.read.ensures c.in_default.not-Pred (v.kind-read ∙ e)) in
    omega (arith, simple-low v.bound n)
