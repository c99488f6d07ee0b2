use native.Mathlib.Omega.{arith}
use mathlib.Core.Path.{sym, ◌∙◌}
use borrow.Author.Tests.{eq-eqb, ne_eqb}
use Rattle.record.proofs.KindLaws.{named-number, not-number}
use Rattle.place.proofs.TermViewLaws.{as-rec, as-tuple, simple-kind}
use Rattle.recognition.proofs.RecognitionLaws.{legal-alone, legal-atom, legal-let_all, legal-of, legal-rec, legal-room, legal-tuple}
use Rattle.recognition.proofs.ScanLaws.{atom-low, kind-left, kind-room, of-high, own_room}
use Rattle.recognition.proofs.is_legal.Goals as goal

pub read-requires : goal.read-requires
read-requires c = omega (arith, kind-room c.requires.0.1)

pub is_all-requires : goal.is_all-requires
is_all-requires c =
    let v = as-tuple c.requires.0.1 (named-number c.in-Tuple.ensures) in
    ((v.atoms, v.row, v.count), c.requires.1)

pub returns-in-Tuple : goal.returns-in-Tuple
returns-in-Tuple c = λ t h. legal-tuple h c.args.first (named-number c.in-Tuple.ensures) c.is_all.result c.is_all.ensures

pub read_atom-requires : goal.read_atom-requires
read_atom-requires c =
    let h = c.requires.0.1 in
    let e = named-number c.in-LetOne.ensures in
    let kind = simple-kind h e in
    (omega (arith, own_room h e), kind.0, kind.1)

pub returns-in-Numeral : goal.returns-in-Numeral
returns-in-Numeral c = λ t h. legal-atom h c.args.first (named-number c.in-LetOne.ensures) (atom-low c.read_atom.ensures c.in-Numeral.is)

pub read-requires-in_default-read_atom : goal.read-requires-in_default-read_atom
read-requires-in_default-read_atom c =
    let h = c.requires.0.1 in
    let e = named-number c.in-LetOne.ensures in
    let d = c.in_default-read_atom in
    omega (arith, legal-room h c.args.first e (of-high h e c.read_atom.ensures d.not-Numeral d.not-Reference))

pub returns-in-Reference : goal.returns-in-Reference
returns-in-Reference c =
    let e = named-number c.in-LetOne.ensures in
    let d = c.in_default-read_atom in
    λ t h. sym (eq-eqb _ 33 (named-number c.in-Reference.ensures)) ∙ legal-of h c.args.first e (of-high h e c.read_atom.ensures d.not-Numeral d.not-Reference)

pub returns-in_default-matches : goal.returns-in_default-matches
returns-in_default-matches c =
    let e = named-number c.in-LetOne.ensures in
    let d = c.in_default-read_atom in
    λ t h.
    sym (ne_eqb _ 33 (not-number _ tt c.read-in_default-read_atom.ensures c.in_default-matches.not-Reference))
    ∙ legal-of h c.args.first e (of-high h e c.read_atom.ensures d.not-Numeral d.not-Reference)

pub returns-in-LetAll : goal.returns-in-LetAll
returns-in-LetAll c = λ t h. legal-let_all h c.args.first (named-number c.in-LetAll.ensures)

pub is_all-requires-then-first : goal.is_all-requires-then-first
is_all-requires-then-first c =
    let d = c.in_default in
    let none = c.read.ensures in
    let h = c.requires.0.1 in
    let v = as-rec h (kind-left h (not-number _ tt none d.not-Tuple) (not-number _ tt none d.not-LetOne) (not-number _ tt none d.not-LetAll)) in
    ((v.start, v.row, v.start-length), c.requires.1)

pub returns-then-first : goal.returns-then-first
returns-then-first c =
    let d = c.in_default in
    let none = c.read.ensures in
    λ t h.
    let e = kind-left h (not-number _ tt none d.not-Tuple) (not-number _ tt none d.not-LetOne) (not-number _ tt none d.not-LetAll) in
    legal-rec h c.args.first e c.if-first.true c.is_all-then-first.result c.is_all-then-first.ensures

pub returns-else-first : goal.returns-else-first
returns-else-first c =
    let d = c.in_default in
    let none = c.read.ensures in
    λ t h.
    let e = kind-left h (not-number _ tt none d.not-Tuple) (not-number _ tt none d.not-LetOne) (not-number _ tt none d.not-LetAll) in
    c.if-first.false ∙ legal-alone h c.args.first e c.if-first.false
