use native.Mathlib.Omega.{arith}
use mathlib.Core.Path.{sym, ◌∙◌}
use Rattle.record.specs.declared.kind.Kind.TheVariants.{Reference}
use Rattle.record.proofs.KindLaws.{named-number, not-number}
use Rattle.recognition.proofs.AllLaws.{left_end, left-kind, left-next, left-number, left-room, left-start}
use Rattle.recognition.proofs.is_all.Goals as goal

pub loop-x-init : goal.loop-x-init
loop-x-init c = λ ys h e. left-start h e

pub read-requires : goal.read-requires
read-requires c =
    let q = c.requires.0 in
    omega (arith, left-room (c.loop-x.invariant q.0 q.1 q.2) (omega arith))

pub get_u32-requires : goal.get_u32-requires
get_u32-requires c =
    let q = c.requires.0 in
    omega (arith, left-room (c.loop-x.invariant q.0 q.1 q.2) (omega arith))

pub loop-x-preserved : goal.loop-x-preserved
loop-x-preserved c =
    λ ys h e. left-next (c.loop-x.invariant ys h e) (omega arith) (named-number c.in-Reference.ensures) (sym c.get_u32.ensures ∙ c.if-get_u32-x.false)

pub returns-then-get_u32-x : goal.returns-then-get_u32-x
returns-then-get_u32-x c =
    λ ys h e. left-number (c.loop-x.invariant ys h e) (omega arith) (named-number c.in-Reference.ensures) (λ f. c.if-get_u32-x.true (c.get_u32.ensures ∙ f))

pub returns-in_default : goal.returns-in_default
returns-in_default c =
    λ ys h e. left-kind (c.loop-x.invariant ys h e) (omega arith) (not-number Reference tt c.read.ensures c.in_default.not-Reference)

pub returns : goal.returns
returns c = λ ys h e. left_end (c.loop-x.invariant ys h e) (omega arith)
