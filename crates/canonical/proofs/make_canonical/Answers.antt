use Rattle.std.proofs.Common.{ap, arith, rules, ◌∙◌, replicate, ℕ, ◌-◌, ◌+◌, ◌*◌}
use Rattle.counting.specs.Held.{canonical_held}
use Rattle.canonical.proofs.HeldLaws.{held-of}
use Rattle.canonical.proofs.RowsLaws.{passed_on, passed_start, passed-end}
use Rattle.canonical.proofs.make_canonical.Goals as goal

pub loop-j-init : goal.loop-j-init
loop-j-init c = passed_start c.args.words.now _ (search rules) c.canonical_head.ensures _ c.open_count-n.ensures

pub loop-j-preserved : goal.loop-j-preserved
loop-j-preserved c =
    rw c.put_entry.ensures (passed_on c.loop-j.invariant c.loop-j-test.true c.canonical_entry-held.result (c.canonical_entry-held.ensures ∙ ap canonical_held (held-of c.loop-j.words c.loop-j.j c.entry.ensures)))

pub returns : goal.returns
returns c =
    passed-end c.loop-j.invariant (omega arith) c.fill.new.self (c.fill.ensures.after (λ y e. e) ∙ ap (λ (k : ℕ). replicate k 0) {y = 189 - (3 + 6 * c.open_count-n.result)} (search rules))
