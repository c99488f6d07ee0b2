use native.Mathlib.Omega.{arith}
use Rattle.record.specs.declared.kind.Kind.TheVariants.{Block, Loop}
use Rattle.record.proofs.KindLaws.{named-number, not-number}
use Rattle.step_forecast.proofs.OpenLaws.{first-assign, first-loop, open-assign, open_loop, open-nest, row-head}
use Rattle.step_forecast.proofs.look.Goals as goal

pub get_u16-requires : goal.get_u16-requires
get_u16-requires c = omega (arith, row-head c.requires.0.1 c.requires.1)

pub read-requires : goal.read-requires
read-requires c = omega (arith, row-head c.requires.0.1 c.requires.1)

pub turns_of-turns-requires : goal.turns_of-turns-requires
turns_of-turns-requires c = first-loop c.requires.0.1 c.requires.1 (named-number c.in-Loop.ensures)

pub returns-in-Loop : goal.returns-in-Loop
returns-in-Loop c =
    (λ b h. open_loop c.args.store.now h c.requires.1 c.get_u16.ensures.0 (named-number c.in-Loop.ensures) c.turns_of-turns.result c.turns_of-turns.ensures.0, c.turns_of-turns.ensures.1)

pub returns-in-Block : goal.returns-in-Block
returns-in-Block c =
    (λ b h. open-nest c.args.store.now h c.requires.1 c.get_u16.ensures.0 (named-number c.in-Block.ensures), omega arith)

pub assign_steps-requires : goal.assign_steps-requires
assign_steps-requires c =
    first-assign c.requires.0.1 c.requires.1 (not-number Loop tt c.read.ensures c.in_default.not-Loop) (not-number Block tt c.read.ensures c.in_default.not-Block)

pub returns-in_default : goal.returns-in_default
returns-in_default c =
    (λ b h. open-assign c.args.store.now h c.requires.1 c.get_u16.ensures.0 (not-number Loop tt c.read.ensures c.in_default.not-Loop) (not-number Block tt c.read.ensures c.in_default.not-Block) c.assign_steps.result c.assign_steps.ensures, omega arith)
