use native.Mathlib.Omega.{arith}
use mathlib.Core.Path.{sym}
use Rattle.record.proofs.KindLaws.{named-number, not-number}
use Rattle.readback.proofs.CommandLaws.{command-let_one, command-loop, command-nest, command-rec, command-tuple, first-room}
use Rattle.recognition.proofs.ScanLaws.{kind-left, kind-room}
use Rattle.readback.proofs.own_command_size.Goals as goal

pub read-requires : goal.read-requires
read-requires c = omega (arith, kind-room c.requires.2)

pub read-requires-in-LetAll : goal.read-requires-in-LetAll
read-requires-in-LetAll c = omega (arith, first-room c.requires.2 (named-number c.in-LetAll.ensures))

pub returns-in-Tuple : goal.returns-in-Tuple
returns-in-Tuple c = λ k t h. sym (command-tuple h (named-number c.in-Tuple.ensures))

pub returns-in-LetOne : goal.returns-in-LetOne
returns-in-LetOne c = λ k t h. sym (command-let_one h (named-number c.in-LetOne.ensures))

pub returns-in-Rec : goal.returns-in-Rec
returns-in-Rec c = λ k t h. sym (command-loop h (named-number c.in-LetAll.ensures) (named-number c.in-Rec.ensures))

pub returns-in_default-read : goal.returns-in_default-read
returns-in_default-read c =
    λ k t h. sym (command-nest h (named-number c.in-LetAll.ensures) (not-number _ tt c.read-in-LetAll.ensures c.in_default-read.not-Rec))

pub returns-in_default : goal.returns-in_default
returns-in_default c =
    λ k t h. sym (command-rec h (kind-left h (not-number _ tt c.read.ensures c.in_default.not-Tuple) (not-number _ tt c.read.ensures c.in_default.not-LetOne) (not-number _ tt c.read.ensures c.in_default.not-LetAll)))
