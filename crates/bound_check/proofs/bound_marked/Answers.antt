use native.Mathlib.Omega.{arith}
use mathlib.Core.Path.{ap, ◌∙◌, sym}
use Rattle.place.proofs.ProgramNumberLaws.{bound-variable}
use Rattle.record.proofs.KindLaws.{named-number, not-number}
use Rattle.bound_check.specs.Marks.{marked}
use Rattle.command.proofs.LookLaws.{loop-read}
use Rattle.bound_check.proofs.MarkLaws.{bound-free, bound-held}
use Rattle.bound_check.proofs.bound_marked.Goals as goal

pub read-requires : goal.read-requires
read-requires c = omega (arith, (loop-read c.requires.1.1.1.1.0).room)

pub returns-in-Literal : goal.returns-in-Literal
returns-in-Literal c = λ x m b r h. bound-free (marked c.args.marks.now) m (sym (loop-read h).kind ∙ named-number c.in-Literal.ensures)

pub get_u32-requires : goal.get_u32-requires
get_u32-requires c = omega (arith, (loop-read c.requires.1.1.1.1.0).room)

pub bounds-marks-get_u32 : goal.bounds-marks-get_u32
bounds-marks-get_u32 c =
    let p = c.requires.1.1.1.1 in
    let v = loop-read p.0 in
    let w = bound-variable 16 c.requires.1.0 (λ e. not-number _ tt c.read.ensures c.in_default.not-Literal (v.kind ∙ e)) p.1 in
    omega (arith, w, v.number, c.get_u32.ensures)

pub returns-in_default : goal.returns-in_default
unfolding marked
returns-in_default c =
    λ x m b r h.
    let v = loop-read h in
    ap (marked c.args.marks.now) (c.get_u32.ensures ∙ v.number) ∙ bound-held (marked c.args.marks.now) m (λ e. not-number _ tt c.read.ensures c.in_default.not-Literal (v.kind ∙ e))
