use Prim.Native.Nat.{◌+◌, ◌-◌, ℕ}
use mathlib.Core.Path.{ap, sym, ◌∙◌}
use Rattle.term_checker.specs.TermVerdict.{atoms_rating}
use Rattle.buffer.specs.Slice.{part}
use Rattle.record.specs.declared.kind.Kind.TheVariants.{Tuple}
use Rattle.record.specs.Term.{decode_atoms}
use Rattle.record.proofs.TermReadLaws.{only_tuple-other}
use Rattle.checker.specs.Verdict.{verdict}
use Rattle.term_checker.proofs.WalkLaws.{kind_here, kind-other, none_here}
use Rattle.term_checker.proofs.TermWalkLaws.{tuple-none, tuple-walk}
use Rattle.term_checker.proofs.TermVerdictLaws.{none-malformed}
use Rattle.term_checker.proofs.check_tuple.Goals as goal

pub returns-in_default : goal.returns-in_default
returns-in_default c = none-malformed _ (tuple-none _ (none_here _ _ c.head_at.ensures c.in_default.not-Record) c.args.limits.k)

pub returns-in-Tuple : goal.returns-in-Tuple
returns-in-Tuple c =
    let a = c.args in
    let rate = verdict (atoms_rating a.limits.k a.limits.largest) in
    c.check_atoms.ensures
    ∙ ap (λ (m : ℕ). rate (decode_atoms a.limits.k (part a.s.now (a.at + 4) (m - (a.at + 4))))) c.after.ensures
    ∙ ap rate (sym (tuple-walk a.s.now a.at a.limits.k (kind_here _ _ c.in-Record.ensures c.in-Tuple.ensures)))

pub returns-in_default-named : goal.returns-in_default-named
returns-in_default-named c =
    none-malformed _ (only_tuple-other c.args.limits.k _ (kind-other _ _ c.in-Record.ensures Tuple tt c.named.ensures c.in_default-named.not-Tuple))
