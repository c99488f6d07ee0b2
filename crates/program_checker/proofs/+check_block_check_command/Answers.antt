-- The measure is twice the length, and one more for a block. The loop's invariant: the verdict is the worse of what was found
-- and the verdict on what is left, from `at` up to `end`.
use Prim.Native.Nat.{ℕ, ◌+◌}
use native.Mathlib.Omega.{arith}
use mathlib.Core.Path.{◌≡◌, ap, refl, sym, ◌∙◌}
use mathlib.Core.List.{List}
use mathlib.Core.Logic.{inl, inr}
use lib.Seq.{length-take-le}
use Rattle.std.proofs.lemmas.Bool.{le-leb}
use Rattle.rules.proofs.Tests.{true-false}
use Rattle.record.specs.Program.{decode_block}
use Rattle.record.proofs.BetweenLaws.{between-all, between-rest}
use Rattle.checker.specs.declared.Verdict.{Verdict}
use Rattle.checker.specs.Verdict.{worse}
use Rattle.checker.proofs.VerdictLaws.{worse-good, worse-malformed}
use Rattle.program_checker.specs.BlockVerdict.{block_verdict}
use Rattle.program_checker.proofs.CommandRowLaws.{FirstCommand, Turned, first-front, row-end, row_first, row-inner, row-no_record, turn_last, turn-rest, turn-whole}
use Rattle.program_checker.proofs.ProgramVerdictLaws.{opens-all}
use Rattle.program_checker.proofs.+check_block_check_command.Goals as goal
use Rattle.program_checker.proofs.+check_block_check_command.Goals.{check_block-After-after-next, check_block-then-not-whole+then-next-end, check_block-else-not-whole, check_block-else-not-whole-via-then-not-whole+else-next-end, check_block-else-not-whole-via-else-not-whole}

pub check_block-loop-at-init : goal.check_block-loop-at-init
check_block-loop-at-init t c =
    (omega arith, omega arith, sym (ap (λ (x : List ℕ). block_verdict c.args.limits.k c.args.limits.largest (decode_block x)) (between-all c.args.s.now)))

pub check_block-slice_bounds-head_at-end : goal.check_block-slice_bounds-head_at-end
check_block-slice_bounds-head_at-end t c =
    sym (length-take-le c.loop-at.end c.args.s.now c.loop-at.invariant.1)

pub check_block-slice_bounds-after-end : goal.check_block-slice_bounds-after-end
check_block-slice_bounds-after-end t c =
    sym (length-take-le c.loop-at.end c.args.s.now c.loop-at.invariant.1)

-- where the first command that is left ends
first : (t : ℕ) (c : check_block-After-after-next t) → FirstCommand c.args.s.now c.loop-at.at c.loop-at.end c.after-next.result
first t c =
    row_first c.args.limits.k c.args.limits.largest c.args.s.now c.loop-at.at c.loop-at.end c.loop-at.invariant.1 _ _ c.after-next.result (sym c.in-Record.ensures) c.after-next.ensures

pub check_block-overflow_sub-whole : goal.check_block-overflow_sub-whole
check_block-overflow_sub-whole t c = (first t c).most

pub check_block-check_block-requires : goal.check_block-check_block-requires
check_block-check_block-requires t c = (omega (arith, (first t (goal.at.check_block-check_block-requires t c).After-after-next).least, c.loop-at.invariant.1), tt)

pub check_block-slice_bounds-check_command-count : goal.check_block-slice_bounds-check_command-count
check_block-slice_bounds-check_command-count t c = omega (arith, (first t (goal.at.check_block-slice_bounds-check_command-count t c).After-after-next).least)

pub check_block-slice_bounds-check_command-start : goal.check_block-slice_bounds-check_command-start
check_block-slice_bounds-check_command-start t c = omega (arith, (first t (goal.at.check_block-slice_bounds-check_command-start t c).After-after-next).least)

pub check_block-slice_bounds-check_command-end : goal.check_block-slice_bounds-check_command-end
check_block-slice_bounds-check_command-end t c = omega (arith, (first t (goal.at.check_block-slice_bounds-check_command-end t c).After-after-next).most, c.loop-at.invariant.1)

pub check_block-check_command-opened-requires : goal.check_block-check_command-opened-requires
check_block-check_command-opened-requires t c =
    let s = c.args.s.now in
    let l = c.loop-at in
    let f = first t (goal.at.check_block-check_command-opened-requires t c).After-after-next in
    (omega (arith, f.most, l.invariant.1), first-front c.args.limits.k c.args.limits.largest s l.at l.end l.invariant.1 _ f)

pub check_block-overflow_add-at : goal.check_block-overflow_add-at
check_block-overflow_add-at t c =
    let s = c.args.s.now in
    let l = c.loop-at in
    let o = c.check_command-opened in
    let f = first t (goal.at.check_block-overflow_add-at t c).After-after-next in
    omega (arith, l.invariant.1, f.most, row-inner c.args.limits.k c.args.limits.largest s l.at l.end l.invariant.1 _ f _ o.result.verdict o.result.inner o.ensures)

-- a turn, by the way that it went: the rest of the row was checked first, there was none, or the whole command was checked
turned : (t : ℕ) (c : goal.check_block-After-struct_known-1 t)
    → Turned c.args.limits.k c.args.limits.largest c.args.s.now c.loop-at.at c.loop-at.end c.loop-at.found (c.loop-at.at + c.check_command-opened.result.inner) c.if-not-whole.end c.worst-found-in-loop-at.result
turned t c =
    let k = c.args.limits.k in
    let largest = c.args.limits.largest in
    let s = c.args.s.now in
    let l = c.loop-at in
    let f = first t (goal.at.check_block-loop-at-preserved t c).After-after-next in
    let o = c.check_command-opened in
    let v = o.result.verdict in
    let found : (x : Verdict) → c.if-not-whole.found ≡ x → c.worst-found-in-loop-at.result ≡ worse x v = λ x e. c.worst-found-in-loop-at.ensures ∙ ap (λ (y : Verdict). worse y v) e in
    elim c.if-not-whole.branch [
      | check_block-then-not-whole+then-next-end w ↦ turn-rest k largest s l.at l.end l.invariant.1 _ f _ v o.result.inner o.ensures l.found _ _ (found _ (w.found-is ∙ w.worst-found.ensures ∙ ap (worse l.found) w.check_block.ensures)) w.end-is
      | check_block-else-not-whole w ↦ elim w.else-not-whole.branch [
        | check_block-else-not-whole-via-then-not-whole+else-next-end w' ↦ turn_last k largest s l.at l.end l.invariant.1 _ f _ v o.result.inner o.ensures l.found _ _ w'.if-next-end.false (found _ w.found-is) w.end-is
        | check_block-else-not-whole-via-else-not-whole w' ↦ turn-whole k largest s l.at l.end l.invariant.1 _ f _ v o.result.inner o.ensures l.found _ _ (le-leb _ _ w'.if-not-whole.false) (found _ w.found-is) w.end-is
      ]
    ]

pub check_block-loop-at-smaller : goal.check_block-loop-at-smaller
check_block-loop-at-smaller t c = omega (arith, (turned t c).low, (turned t c).high, c.check_command-opened.ensures.opens.least)

pub check_block-loop-at-preserved : goal.check_block-loop-at-preserved
check_block-loop-at-preserved t c =
    let l = c.loop-at in
    ((turned t c).low, omega (arith, (turned t c).high, l.invariant.1), l.invariant.2 ∙ (turned t c).same)

pub check_block-returns-in_default : goal.check_block-returns-in_default
check_block-returns-in_default t c =
    sym (c.loop-at.invariant.2 ∙ ap (worse c.loop-at.found) (row-no_record c.args.limits.k c.args.limits.largest c.args.s.now c.loop-at.at c.loop-at.end c.loop-at.invariant.1 c.loop-at-test.true (λ n k e. c.in_default.not-Record n k (c.head_at.ensures ∙ e))) ∙ worse-malformed c.loop-at.found)

pub check_block-returns : goal.check_block-returns
check_block-returns t c =
    sym (c.loop-at.invariant.2 ∙ ap (worse c.loop-at.found) (row-end c.args.limits.k c.args.limits.largest c.args.s.now c.loop-at.at c.loop-at.end c.loop-at.invariant.1 (omega arith)) ∙ worse-good c.loop-at.found)

pub check_command-open_command-opened-requires : goal.check_command-open_command-opened-requires
check_command-open_command-opened-requires t c = c.requires

pub check_command-check_block-requires : goal.check_command-check_block-requires
check_command-check_block-requires t c = (omega (arith, c.open_command-opened.ensures.least), tt)

pub check_command-returns-then-opened-s : goal.check_command-returns-then-opened-s
check_command-returns-then-opened-s t c =
    let o = c.open_command-opened in
    record {
      opens = opens-all c.args.limits.k c.args.limits.largest c.args.s.now _ c.requires.least (c.worst.ensures ∙ ap (worse o.result.verdict) (c.check_block.ensures ∙ ap (λ (x : List ℕ). block_verdict c.args.limits.k c.args.limits.largest (decode_block x)) (between-rest c.args.s.now o.result.inner)) ∙ sym o.ensures.both);
      all = λ e. refl;
    }

pub check_command-returns : goal.check_command-returns
check_command-returns t c =
    let o = c.open_command-opened in
    record {
      opens = o.ensures;
      all = λ e. elim c.else-whole.either [
        | inl w ↦ omega (arith, w.1, o.ensures.most)
        | inr w ↦ absurd (true-false (sym e ∙ w))
      ];
    }
