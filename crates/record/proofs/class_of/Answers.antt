-- On each way through the match the tests say in which range the kind lies.
use mathlib.Core.Path.{sym}
use native.Mathlib.Omega.{arith}
use Rattle.record.proofs.ClassLaws.{class-command, class-expression, class-malformed, class-nine, class-seven, class-term}
use Rattle.record.proofs.class_of.Goals as goal

pub returns-in-9 : goal.returns-in-9
returns-in-9 c =
    sym (class-nine c.args.kind (omega arith))

pub returns-in-4-to-6 : goal.returns-in-4-to-6
returns-in-4-to-6 c =
    sym (class-malformed c.args.kind (omega arith) (omega arith) (λ x y. omega arith) (λ x y. omega arith) (λ x y. omega arith))

pub returns-in-16-to-19 : goal.returns-in-16-to-19
returns-in-16-to-19 c =
    sym (class-expression c.args.kind (omega arith) (omega arith))

pub returns-in-32-to-41 : goal.returns-in-32-to-41
returns-in-32-to-41 c =
    sym (class-term c.args.kind (omega arith) (omega arith))

pub returns-in_default : goal.returns-in_default
returns-in_default c =
    sym (class-malformed c.args.kind (omega arith) (omega arith) (λ x y. omega arith) (λ x y. omega arith) (λ x y. omega arith))

pub returns-in_default-2 : goal.returns-in_default-2
returns-in_default-2 c =
    sym (class-malformed c.args.kind (omega arith) (omega arith) (λ x y. omega arith) (λ x y. omega arith) (λ x y. omega arith))

pub returns-in_default-3 : goal.returns-in_default-3
returns-in_default-3 c =
    sym (class-malformed c.args.kind (omega arith) (omega arith) (λ x y. omega arith) (λ x y. omega arith) (λ x y. omega arith))

pub returns-in_default-4 : goal.returns-in_default-4
returns-in_default-4 c =
    sym (class-malformed c.args.kind (omega arith) (omega arith) (λ x y. omega arith) (λ x y. omega arith) (λ x y. omega arith))

pub returns-in-1-to-7 : goal.returns-in-1-to-7
returns-in-1-to-7 c =
    sym (class-seven c.args.kind (omega arith))

pub returns-in-1-to-7-2 : goal.returns-in-1-to-7-2
returns-in-1-to-7-2 c =
    sym (class-command c.args.kind (omega arith) (omega arith))
