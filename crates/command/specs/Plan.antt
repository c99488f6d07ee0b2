-- The plan of the next step: what `look` answers, from the tree and the store.
use Rattle.std.specs.Prelude.{ℕ, suc, ◌+◌, ◌*◌, List, length, Bool}
use Rattle.rules.specs.Syntax.{Expr, lit, var, inc, dec, Block, empty, assign, loop, nest}
use Rattle.rules.specs.Store.{minus_one, lookup}
use Rattle.rules.specs.Step.{bound_value}
use Rattle.record.specs.Program.{block_size}
use Rattle.record.specs.declared.kind.Kind.{Kind}
use Rattle.record.specs.declared.kind.Kind.TheVariants.{Literal}
use Rattle.place.specs.Path.{path, spot}
use Rattle.plan.specs.Plan.{plan, plan_raise, plan_turn}
use Rattle.plan.specs.declared.Plan.{Plan}
use Rattle.plan.specs.declared.Rule.TheVariants.{Bind, Evaluate, Finished, Leave}

-- The value that an expression's or a bound's record names: a literal's number, or the value of the variable with this number.
unfoldable pub leaf_value : Kind → ℕ → List ℕ → ℕ
leaf_value Literal n s = n
leaf_value _ n s = lookup s n

-- Of an assignment: its 16 bytes go where its value is stored, and a literal is as long as the expression that becomes it.
unfoldable pub plan_assign : (ℕ → Bool) → ℕ → ℕ → ℕ → Expr → List ℕ → Plan
plan_assign ok levels at x (lit n) s = plan levels at Bind x n 0 16
plan_assign ok levels at x (var y) s = plan levels at Bind x (lookup s y) 0 16
plan_assign ok levels at x (inc y) s = plan_raise levels at x (suc (lookup s y)) 0 (ok (suc (lookup s y)))
plan_assign ok levels at x (dec y) s = plan levels at Evaluate x (minus_one (lookup s y)) 0 0

-- Of a block whose first command the rules act on.
unfoldable pub plan_spot : (ℕ → Bool) → ℕ → ℕ → Block → List ℕ → Plan
plan_spot ok levels at empty s = plan levels at Finished 0 0 0 0
plan_spot ok levels at (assign x e r) s = plan_assign ok levels at x e s
plan_spot ok levels at (loop x b body r) s = plan_turn levels at x (block_size body) (bound_value s b)
plan_spot ok levels at (nest b r) s = plan levels at Leave 0 0 0 4

-- The plan of the next step of the program P with the store s: its commands stand behind the head of its block, where its
-- record's contents start, and `ok` is the test for a value that is not too large.
unfoldable pub plan_of : ℕ → (ℕ → Bool) → Block → List ℕ → Plan
plan_of contents ok P s = plan_spot ok (length (path P)) (contents + 4 + 4 * length (path P)) (spot P) s
