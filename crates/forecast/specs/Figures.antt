-- THE THREE FIGURES of a program from its start store, worked out without a run (02 C-19): steps to the end, longest configuration and
-- longest term on the way, start and end included. The value of each loop's bound is read from the start store. That they are the
-- figures of a run is `ForecastMeaning`.
use Rattle.std.specs.Prelude.{◌*◌, ◌+◌, max, suc, zero, ℕ, List}
use Rattle.record.specs.declared.Header.{Header}
use Rattle.record.specs.Header.{contents_at}
use Rattle.rules.specs.Evaluate.{assign_steps}
use Rattle.rules.specs.Step.{bound_value}
use Rattle.rules.specs.Syntax.{Block, Expr, assign, dec, empty, inc, lit, loop, nest, var}

-- STEPS

-- The steps of a loop of n turns with a body of s steps: each turn unrolls, stores the index and drops its block; then the loop becomes
-- an empty block, which goes (003, rules 8 and 9).
unfoldable pub loop_steps : ℕ → ℕ → ℕ
loop_steps n s = n * (3 + s) + 2

-- The steps of a block to its end, each bound having its value in the store s.
unfoldable pub steps_of : List ℕ → Block → ℕ
steps_of s empty = 0
steps_of s (assign x e r) = assign_steps e + steps_of s r
steps_of s (loop x b c r) = loop_steps (bound_value s b) (steps_of s c) + steps_of s r
steps_of s (nest c r) = steps_of s c + (1 + steps_of s r)

-- LENGTHS: a configuration's record and its term's weigh the same tree, with other weights

-- The bytes of an empty block, and those that each command adds: assignment of a literal or a variable, assignment of plus one
-- or minus one, loop, block.
pub record Weights : Type 0 where
  pub nothing : ℕ
  pub plain : ℕ
  pub worked : ℕ
  pub looped : ℕ
  pub nested : ℕ

-- The weights of a configuration's record, 01's kinds 1 to 3 and 16 to 19: without the header and the outermost block's own head.
unfoldable pub program_weights : Weights
program_weights = record { nothing = 0; plain = 16; worked = 16; looped = 20; nested = 4 }

-- The weights of its term with k variables, 01's kinds 32 to 39: an empty block is the k atoms of a tuple, a loop a let-all with a rec and
-- a tuple, a block a let-all; without the header and the outermost term's own head.
unfoldable pub term_weights : ℕ → Weights
term_weights k = record { nothing = 8 * k; plain = 16; worked = 20; looped = 28 + 8 * k; nested = 8 }

-- What an assignment adds.
unfoldable pub assign_weight : Weights → Expr → ℕ
assign_weight w (lit n) = w.plain
assign_weight w (var x) = w.plain
assign_weight w (inc x) = w.worked
assign_weight w (dec x) = w.worked

-- The bytes of a block.
unfoldable pub weigh : Weights → Block → ℕ
weigh w empty = w.nothing
weigh w (assign x e r) = assign_weight w e + weigh w r
weigh w (loop x b c r) = w.looped + weigh w c + weigh w r
weigh w (nest c r) = w.nested + weigh w c + weigh w r

-- What a turn that is unrolled and not yet run adds: a block, the assignment of its index, the body, which weighs c.
unfoldable pub turn_weight : Weights → ℕ → ℕ
turn_weight w c = w.nested + w.plain + c

-- The most that a loop of n turns comes to, without what stands behind it; its body weighs c, and at most p on its way. It is as it
-- stands; or unrolled to the last; or in its first turn's body, with the other turns waiting.
unfoldable pub loop_longest : Weights → ℕ → ℕ → ℕ → ℕ
loop_longest w zero c p = w.looped + c
loop_longest w (suc q) c p = max (w.looped + c + suc q * turn_weight w c) (q * turn_weight w c + (w.nested + p))

-- The most that a block weighs on its way to its end, start and end included.
unfoldable pub longest_of : Weights → List ℕ → Block → ℕ
longest_of w s empty = w.nothing
longest_of w s (assign x e r) = max (assign_weight w e + weigh w r) (longest_of w s r)
longest_of w s (loop x b c r) = max (loop_longest w (bound_value s b) (weigh w c) (longest_of w s c) + weigh w r) (longest_of w s r)
longest_of w s (nest c r) = max (w.nested + longest_of w s c + weigh w r) (longest_of w s r)

-- THE FIGURES

-- Steps to the end, longest configuration and longest term on the way, in bytes.
pub record Figures : Type 0 where
  pub steps : ℕ
  pub program_bytes : ℕ
  pub term_bytes : ℕ

-- Those of a program under a header on a start store. Header and outermost head stand before all that is weighed.
unfoldable pub figures : Header → List ℕ → Block → Figures
figures h s P = record {
  steps = steps_of s P;
  program_bytes = contents_at h + 4 + longest_of program_weights s P;
  term_bytes = contents_at h + 4 + longest_of (term_weights h.k) s P;
}
