-- A numeral is closed, and a variable where it is marked.
use Rattle.std.proofs.Common.{arith}
use Rattle.record.proofs.KindLaws.{named-number, not-number}
use Rattle.record.specs.declared.kind.Kind.TheVariants.{Reference}
use Rattle.substitution.specs.Marks.{marked}
use Rattle.substitution.proofs.AtomSubstitutionLaws.{atom-room, ranged-low}
use Rattle.substitution.proofs.ClosedLaws.{closed-num, closed-ref}
use Rattle.substitution.proofs.closed.closed_atom.Goals as goal

pub read-requires : goal.read-requires
read-requires c = let r = atom-room c.requires.1 in omega arith

pub get_u32-requires : goal.get_u32-requires
get_u32-requires c = let r = atom-room c.requires.1 in omega arith

pub bounds-bound-get_u32 : goal.bounds-bound-get_u32
bounds-bound-get_u32 c = omega (arith, c.get_u32.ensures, ranged-low c.requires.1 (named-number c.in-Reference.ensures))

pub returns-in-Reference : goal.returns-in-Reference
unfolding marked
returns-in-Reference c = λ a h. closed-ref h (marked c.args.bound.now) _ c.get_u32.ensures (named-number c.in-Reference.ensures)

pub returns-in_default : goal.returns-in_default
returns-in_default c = λ a h. closed-num h (marked c.args.bound.now) (not-number Reference tt c.read.ensures c.in_default.not-Reference)
