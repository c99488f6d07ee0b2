-- WHICH OF 003'S RULES each case of `Rule` is: each rule of the paper with its case (`plan-rule` of each engine: a plan has the case of
-- the rule that makes the step). Finished and Over are no rule's.
use Rattle.std.specs.Prelude.{ℕ, Bool}
use Rattle.rules.specs.Rules.{Reduce, Step, let_inside, let_pred, let_succ, let_tuple, let_value, rec_suc, rec_zero, rule3, rule4, rule5, rule6, rule7, rule8, rule9}
use Rattle.rules.specs.Syntax.{Config, Term}
use Rattle.plan.specs.declared.Rule.{Rule}
use Rattle.plan.specs.declared.Rule.TheVariants.{Bind, Evaluate, Leave, Stop, Unroll}

-- The stepper's rules 3 to 9. Rules 1 and 2 stand above rule 5, and rule 7 is a step inside a block.
unfoldable pub rule_of : {ok : ℕ → Bool} {c d : Config} → Step ok c d → Rule
rule_of rule3 = Bind
rule_of rule4 = Bind
rule_of (rule5 v) = Evaluate
rule_of rule6 = Leave
rule_of (rule7 h) = rule_of h
rule_of (rule8 e) = Stop
rule_of (rule9 e) = Unroll

-- The reducer's, figure 1. `let_inside` is a reduction of a let-all's first term.
unfoldable pub reduction_of : {ok : ℕ → Bool} {t u : Term} → Reduce ok t u → Rule
reduction_of let_value = Bind
reduction_of (let_succ e) = Evaluate
reduction_of let_pred = Evaluate
reduction_of (let_tuple vs) = Leave
reduction_of (let_inside h) = reduction_of h
reduction_of rec_zero = Stop
reduction_of rec_suc = Unroll
