use mathlib.Core.Path.{◌∙◌, ap, sym}
use mathlib.Core.Bool.{not}
use native.Mathlib.Omega.{arith}
use Rattle.place.proofs.TermPathLaws.{enters-kind, enters-tuple, enters-yes}
use Rattle.record.proofs.KindLaws.{named-number, not-number}
use Rattle.record.specs.declared.kind.Kind.TheVariants.{LetAll, Tuple}
use Rattle.redex.proofs.enters.Goals.{in-Tuple, in_default-matches}
use Rattle.redex.proofs.enters.Goals as goal

pub read-requires-in-LetAll : goal.read-requires-in-LetAll
read-requires-in-LetAll c = omega (arith, c.requires.1 (named-number c.in-LetAll.ensures))

pub returns-after-matches : goal.returns-after-matches
returns-after-matches c =
    elim c.match-matches.branch [
      | in-Tuple w ↦
          ap not w.matches-is ∙ sym (enters-tuple c.args.buf.now c.args.p (named-number c.in-LetAll.ensures) (named-number w.in-Tuple.ensures))
      | in_default-matches w ↦
          ap not w.matches-is ∙ sym (enters-yes c.args.buf.now c.args.p (named-number c.in-LetAll.ensures) (not-number Tuple tt c.read-in-LetAll.ensures w.in_default-matches.not-Tuple))
    ]

pub returns-in_default : goal.returns-in_default
returns-in_default c = sym (enters-kind c.args.buf.now c.args.p (not-number LetAll tt c.read.ensures c.in_default.not-LetAll))
