-- Each arm is a law of the path.
use Rattle.std.proofs.Common.{arith, sym}
use mathlib.Core.Path.{subst}
use Rattle.record.specs.declared.kind.Kind.TheVariants.{LetAll, Tuple}
use Rattle.record.proofs.KindLaws.{named-number, not-number}
use Rattle.substitution.specs.Path.{Settled}
use Rattle.substitution.proofs.PathLaws.{begin, into-tuple, onward-as, past-let_all}
use Rattle.substitution.proofs.RangedLaws.{ranged-room}
use Rattle.substitution.proofs.path.Path.onward.Goals as goal

pub loop-path-init : goal.loop-path-init
loop-path-init c = λ t h. begin h

pub returns-in-Row-clause-goes : goal.returns-in-Row-clause-goes
returns-in-Row-clause-goes c = c.loop-path.invariant

pub returns-in-Row-clause-settled : goal.returns-in-Row-clause-settled
returns-in-Row-clause-settled c = subst (Settled c.args.buf.now) (sym c.in-Row.is) tt

pub overflow_add-p : goal.overflow_add-p
overflow_add-p c =
    let r = ranged-room (onward-as (c.loop-path.invariant c.requires.0 c.requires.1) c.in-At.is).here in omega arith

pub read-requires : goal.read-requires
read-requires c =
    let r = ranged-room (onward-as (c.loop-path.invariant c.requires.0 c.requires.1) c.in-At.is).here in omega arith

pub overflow_add-result : goal.overflow_add-result
overflow_add-result c =
    let r = ranged-room (onward-as (c.loop-path.invariant c.requires.0 c.requires.1) c.in-At.is).here in omega arith

pub returns-in-Tuple-clause-goes : goal.returns-in-Tuple-clause-goes
returns-in-Tuple-clause-goes c = λ t h. into-tuple (onward-as (c.loop-path.invariant t h) c.in-At.is) (named-number c.in-Tuple.ensures)

pub returns-in-Tuple-clause-settled : goal.returns-in-Tuple-clause-settled
returns-in-Tuple-clause-settled c = tt

pub overflow_add-path : goal.overflow_add-path
overflow_add-path c =
    let r = ranged-room (onward-as (c.loop-path.invariant c.requires.0 c.requires.1) c.in-At.is).here in omega arith

pub loop-path-smaller : goal.loop-path-smaller
loop-path-smaller c =
    let r = ranged-room (onward-as (c.loop-path.invariant c.requires.0 c.requires.1) c.in-At.is).here in rw c.in-At.is (omega arith)

pub loop-path-preserved : goal.loop-path-preserved
loop-path-preserved c = λ t h. past-let_all (onward-as (c.loop-path.invariant t h) c.in-At.is) (named-number c.in-LetAll.ensures)

pub returns-in_default : goal.returns-in_default
returns-in_default c = record {
  goes = λ t h. onward-as (c.loop-path.invariant t h) c.in-At.is;
  settled = (not-number Tuple tt c.read.ensures c.in_default.not-Tuple, not-number LetAll tt c.read.ensures c.in_default.not-LetAll);
}
