-- Three ways out: no variable, a variable that stays, and two stores that make a numeral of it.
use Rattle.std.proofs.Common.{ℕ, ap, sym, ◌∙◌, None, get_or, arith}
use Rattle.record.proofs.KindLaws.{named-number, not-number}
use Rattle.record.specs.declared.kind.Kind.TheVariants.{Reference}
use Rattle.substitution.proofs.AtomSubstitutionLaws.{atom-num, atom-room, atom-stays, atom-stored, not_some, ranged-low}
use Rattle.substitution.proofs.substitute.substitute_atom.Goals as goal

pub read-requires : goal.read-requires
read-requires c = let r = atom-room c.requires.1 in omega arith

pub get_u32-requires : goal.get_u32-requires
get_u32-requires c = let r = atom-room c.requires.1 in omega arith

pub bounds : goal.bounds
bounds c = omega (arith, c.get_u32.ensures, ranged-low c.requires.1 (named-number c.in-Reference.ensures))

pub put_u16-requires : goal.put_u16-requires
put_u16-requires c = let r = atom-room c.requires.1 in omega arith

pub put_u32-requires : goal.put_u32-requires
put_u32-requires c = let r = atom-room c.requires.1 in omega arith

pub returns-in-Some : goal.returns-in-Some
returns-in-Some c = λ a h.
    let e = atom-stored h c.args.values.now (named-number c.in-Reference.ensures) c.in-Some.v (ap (λ (x : ℕ). get_or c.args.values.now x None) (sym c.get_u32.ensures) ∙ c.in-Some.is) in
    let bytes = e.0 in
    (cc, e.1)

pub returns-in_default-values : goal.returns-in_default-values
returns-in_default-values c = λ a h.
    atom-stays h c.args.values.now (named-number c.in-Reference.ensures) (ap (λ (x : ℕ). get_or c.args.values.now x None) (sym c.get_u32.ensures) ∙ not_some _ c.in_default-values.not-Some)

pub returns-in_default : goal.returns-in_default
returns-in_default c = λ a h. atom-num h _ (not-number Reference tt c.read.ensures c.in_default.not-Reference)
