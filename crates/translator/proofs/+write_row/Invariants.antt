-- What is left to write, stored now, gives the whole; both the loop and the calls go on with a shorter row.
use Prim.Native.Nat.{◌-◌}
use Rattle.translator.specs.TranslationTasks.{Left, TaskIn}
use Rattle.translator.proofs.+write_row.Given as goal

abbrev pub decreases-write_row : goal.decreases-write_row
decreases-write_row l = l.to - l.from

abbrev pub invariant-loop-left : goal.invariant-loop-left
invariant-loop-left l = (h : TaskIn l.k l.src l.initial.left) → Left l.k l.src l.initial.left h.row.block l.initial.out l.out l.left

abbrev pub decreases-loop-left : goal.decreases-loop-left
decreases-loop-left l = l.left.to - l.left.from
