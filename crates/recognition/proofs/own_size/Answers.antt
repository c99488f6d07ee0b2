use native.Mathlib.Omega.{arith}
use mathlib.Core.Path.{sym, ◌∙◌}
use Rattle.record.specs.declared.kind.Kind.TheVariants.{LetAll, LetOne, Tuple}
use Rattle.record.proofs.KindLaws.{named-number, not-number}
use Rattle.place.proofs.TermViewLaws.{simple-kind}
use Rattle.recognition.proofs.ScanLaws.{atom-low, kind-left, kind-room, of-high, own-atom, own-let_all, own_of, own-rec, own_room, own-tuple}
use Rattle.recognition.proofs.own_size.Goals as goal

pub read-requires : goal.read-requires
read-requires c = omega (arith, kind-room c.requires.1)

pub read_atom-requires : goal.read_atom-requires
read_atom-requires c =
    let h = c.requires.1 in
    let e = named-number c.in-LetOne.ensures in
    let kind = simple-kind h e in
    (omega (arith, own_room h e), kind.0, kind.1)

pub returns-in-Tuple : goal.returns-in-Tuple
returns-in-Tuple c = λ t h. c.tuple_size.ensures ∙ sym (own-tuple h (named-number c.in-Tuple.ensures))

pub returns-in-Numeral : goal.returns-in-Numeral
returns-in-Numeral c = λ t h. sym (own-atom h (named-number c.in-LetOne.ensures) (atom-low c.read_atom.ensures c.in-Numeral.is))

pub returns-in_default-read_atom : goal.returns-in_default-read_atom
returns-in_default-read_atom c =
    let d = c.in_default-read_atom in
    λ t h. sym (own_of h (named-number c.in-LetOne.ensures) (of-high h (named-number c.in-LetOne.ensures) c.read_atom.ensures d.not-Numeral d.not-Reference))

pub returns-in-LetAll : goal.returns-in-LetAll
returns-in-LetAll c = λ t h. sym (own-let_all h (named-number c.in-LetAll.ensures))

pub returns-in_default : goal.returns-in_default
returns-in_default c =
    let d = c.in_default in
    let none = c.read.ensures in
    λ t h.
    let e = kind-left h (not-number Tuple tt none d.not-Tuple) (not-number LetOne tt none d.not-LetOne) (not-number LetAll tt none d.not-LetAll) in
    omega (arith, own-rec h e, c.tuple_size-in_default.ensures)
