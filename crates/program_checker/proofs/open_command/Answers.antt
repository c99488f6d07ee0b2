-- By the class, then by the kind: what is inside a block is its contents; what is inside an assignment, or no command, is nothing.
use mathlib.Core.Path.{ap, sym, ◌∙◌}
use native.Mathlib.Omega.{arith}
use lib.ListN.{drop}
use Rattle.record.specs.Class.{class_of}
use Rattle.record.specs.Program.{decode_block}
use Rattle.record.proofs.ProgramReadLaws.{decode-nest, decode-other}
use Rattle.program_checker.specs.BlockVerdict.{block_verdict}
use Rattle.program_checker.proofs.ProgramVerdictLaws.{nest-verdict, opens-all, opens-class, opens-none}
use Rattle.record.specs.declared.kind.Kind.TheVariants.{Assignment, Block, Loop}
use Rattle.record.specs.Kind.{kind_named}
use Rattle.record.proofs.KindLaws.{named-number, not-number}
use Rattle.program_checker.proofs.open_command.Goals as goal

pub returns-in-Block : goal.returns-in-Block
returns-in-Block c =
    let s = c.args.s.now in
    record {
      least = omega arith;
      most = c.requires.least;
      both = ap (block_verdict c.args.limits.k c.args.limits.largest) (decode-nest s c.requires (sym c.get_u16-kind.ensures.0 ∙ named-number c.in-Block.ensures)) ∙ nest-verdict c.args.limits.k c.args.limits.largest (decode_block (drop 4 s));
    }

pub check_assignment-requires-clause-s_value : goal.check_assignment-requires-clause-s_value
check_assignment-requires-clause-s_value c = sym c.get_u16-kind.ensures.0 ∙ named-number c.in-Assignment.ensures

pub open_loop-requires-clause-s_value : goal.open_loop-requires-clause-s_value
open_loop-requires-clause-s_value c = sym c.get_u16-kind.ensures.0 ∙ named-number c.in-Loop.ensures

pub returns-in-Assignment : goal.returns-in-Assignment
returns-in-Assignment c =
    opens-all c.args.limits.k c.args.limits.largest c.args.s.now _ c.requires.least c.check_assignment.ensures

pub returns-in_default-named : goal.returns-in_default-named
returns-in_default-named c =
    let named = c.in_default-named in
    let is = c.named.ensures ∙ ap kind_named c.get_u16-kind.ensures.0 in
    opens-none c.args.limits.k c.args.limits.largest c.args.s.now c.no_command.ensures c.requires.least (decode-other c.args.s.now c.requires (not-number Block tt is named.not-Block) (not-number Assignment tt is named.not-Assignment) (not-number Loop tt is named.not-Loop))

pub returns-in_default : goal.returns-in_default
returns-in_default c =
    opens-class c.args.limits.k c.args.limits.largest c.args.s.now c.no_command-in_default.ensures c.requires (λ e. c.in_default.not-Program (c.class_of.ensures ∙ ap class_of c.get_u16-kind.ensures.0 ∙ e))
