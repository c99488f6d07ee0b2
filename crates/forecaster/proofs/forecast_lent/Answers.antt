use mathlib.Core.Path.{ap}
use Prim.Native.Nat.{◌+◌, ℕ}
use native.Mathlib.Omega.{arith}
use Rattle.record.proofs.HeaderLaws.{contents_at-high}
use Rattle.forecaster.proofs.CallLaws.{foretells, refuses-bound, refuses-large, row-16, row-k, row-store}
use Rattle.forecaster.proofs.forecast_lent.Goals as goal

pub overflow_add-start : goal.overflow_add-start
overflow_add-start c = omega (arith, contents_at-high c.args.h, c.contents_at-start.ensures)

pub bound_assigned-requires : goal.bound_assigned-requires
bound_assigned-requires c =
    row-16 c.requires.1 (c.contents_at-start.result + 4) (ap (λ (n : ℕ). n + 4) c.contents_at-start.ensures)

pub returns-then-bound_assigned : goal.returns-then-bound_assigned
returns-then-bound_assigned c =
    let w = c.requires.1 in
    let begins = ap (λ (n : ℕ). n + 4) c.contents_at-start.ensures in
    refuses-bound w (c.contents_at-start.result + 4) begins c.bound_assigned.result (c.bound_assigned.ensures c.args.h.k c.requires.0 w.holds.header.k-high (row-k w (c.contents_at-start.result + 4) begins)) c.if-bound_assigned.true

pub count_steps-requires : goal.count_steps-requires
count_steps-requires c =
    (c.requires.0, row-store c.requires.1 (c.contents_at-start.result + 4) (ap (λ (n : ℕ). n + 4) c.contents_at-start.ensures))

pub returns-in_default : goal.returns-in_default
returns-in_default c =
    let w = c.requires.1 in
    let begins = ap (λ (n : ℕ). n + 4) c.contents_at-start.ensures in
    let row = row-store w (c.contents_at-start.result + 4) begins in
    refuses-large w (c.contents_at-start.result + 4) begins c.bound_assigned.result (c.bound_assigned.ensures c.args.h.k c.requires.0 w.holds.header.k-high (row-k w (c.contents_at-start.result + 4) begins)) c.if-bound_assigned.false (omega (arith, c.in_default.ensures c.requires.0 row))

pub longest_program-requires : goal.longest_program-requires
longest_program-requires c =
    ((c.requires.0, row-store c.requires.1 (c.contents_at-start.result + 4) (ap (λ (n : ℕ). n + 4) c.contents_at-start.ensures)), c.requires.1.short)

pub overflow_add-result : goal.overflow_add-result
overflow_add-result c =
    omega (arith, contents_at-high c.args.h, c.contents_at-start.ensures, c.longest_program.ensures.1)

pub longest_term-requires : goal.longest_term-requires
longest_term-requires c =
    ((c.requires.0, row-store c.requires.1 (c.contents_at-start.result + 4) (ap (λ (n : ℕ). n + 4) c.contents_at-start.ensures)), c.requires.1.short, c.requires.1.holds.header.k-low, c.requires.1.holds.header.k-high)

pub overflow_add-result-2 : goal.overflow_add-result-2
overflow_add-result-2 c =
    omega (arith, contents_at-high c.args.h, c.contents_at-start.ensures, c.longest_term.ensures.1)

pub returns : goal.returns
returns c =
    let w = c.requires.1 in
    let begins = ap (λ (n : ℕ). n + 4) c.contents_at-start.ensures in
    let row = row-store w (c.contents_at-start.result + 4) begins in
    let counted = c.in-Some.ensures c.requires.0 row in
    foretells w (c.contents_at-start.result + 4) begins c.bound_assigned.result (c.bound_assigned.ensures c.args.h.k c.requires.0 w.holds.header.k-high (row-k w (c.contents_at-start.result + 4) begins)) c.if-bound_assigned.false
    _ c.longest_program.result c.longest_term.result counted.1 (omega (arith, counted.0, counted.1)) (c.longest_program.ensures.0 c.requires.0 row) c.longest_program.ensures.1 (c.longest_term.ensures.0 c.requires.0 row) c.longest_term.ensures.1
