-- The plan of the next reduction: what `look` answers, from the tree.
use Rattle.std.specs.Prelude.{ℕ, suc, ◌+◌, ◌*◌, Bool, length}
use Rattle.rules.specs.Reduction.{value_of}
use Rattle.rules.specs.Store.{minus_one}
use Rattle.rules.specs.Syntax.{Simple, Term, let_all, let_one, plain, pred_of, rec, succ_of, tuple}
use Rattle.record.specs.Term.{term_size}
use Rattle.place.specs.TermPath.{redex, term_path}
use Rattle.plan.specs.Plan.{plan, plan_raise, plan_turn}
use Rattle.plan.specs.declared.Plan.{Plan}
use Rattle.plan.specs.declared.Rule.TheVariants.{Bind, Evaluate, Finished, Leave}

-- A let-one of a numeral has 16 bytes before its last term; succ and pred have 4 bytes more than the numeral.
unfoldable pub plan_let_one : (ℕ → Bool) → ℕ → ℕ → ℕ → Simple → Plan
plan_let_one ok levels at x (plain a) = plan levels at Bind x (value_of a) 0 16
plan_let_one ok levels at x (succ_of a) = plan_raise levels at x (suc (value_of a)) 4 (ok (suc (value_of a)))
plan_let_one ok levels at x (pred_of a) = plan levels at Evaluate x (minus_one (value_of a)) 0 4

-- Of the term that the rules act on; a let-all of a tuple has its head and the tuple before its last term, and a rec's body is a record
-- with a head of 4 bytes.
unfoldable pub plan_redex : (ℕ → Bool) → ℕ → ℕ → Term → Plan
plan_redex ok levels at (tuple l) = plan levels at Finished 0 0 0 0
plan_redex ok levels at (let_one x s t) = plan_let_one ok levels at x s
plan_redex ok levels at (let_all (tuple l) u) = plan levels at Leave 0 0 0 (8 + 8 * length l)
plan_redex ok levels at (let_all (let_one x s t) u) = plan levels at Finished 0 0 0 0
plan_redex ok levels at (let_all (let_all s t) u) = plan levels at Finished 0 0 0 0
plan_redex ok levels at (let_all (rec x a l t) u) = plan levels at Finished 0 0 0 0
plan_redex ok levels at (rec x a l t) = plan_turn levels at x (4 + term_size t) (value_of a)

-- The plan of the next reduction of the term t, which stands where its record's contents start; `ok` is the test for a value that
-- is not too large.
unfoldable pub plan_of : ℕ → (ℕ → Bool) → Term → Plan
plan_of contents ok t = plan_redex ok (length (term_path t)) (contents + 4 * length (term_path t)) (redex t)
