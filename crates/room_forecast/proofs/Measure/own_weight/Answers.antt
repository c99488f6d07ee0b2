-- One law for each kind of command, told by where its inside starts; an assignment by its steps.
use native.Mathlib.Omega.{arith}
use Rattle.forecast.specs.Figures.{term_weights}
use Rattle.room_forecast.proofs.PartsLaws.{own-bytes, own-looped, own-nested, own-plain, own-worked}
use Rattle.room_forecast.proofs.Measure.own_weight.Goals as goal

pub returns-in-Program : goal.returns-in-Program
returns-in-Program c = λ l s end b turns next o. rw c.in-Program.is (own-bytes o)

pub returns-in-4 : goal.returns-in-4
unfolding term_weights
returns-in-4 c = λ l s end b turns next o. rw c.in-Term.is (own-nested (term_weights c.in-Term.k) o (omega (arith, c.requires)))

pub returns-in-20 : goal.returns-in-20
unfolding term_weights
returns-in-20 c = λ l s end b turns next o. rw c.in-Term.is (omega (arith, c.from.ensures, own-looped (term_weights c.in-Term.k) o (omega (arith, c.requires))))

pub returns-then-head-eq1 : goal.returns-then-head-eq1
unfolding term_weights
returns-then-head-eq1 c =
    λ l s end b turns next o. rw c.in-Term.is (own-plain (term_weights c.in-Term.k) o (λ e. omega arith) (λ e. omega arith) c.if-head-eq1.true)

pub returns-else-head-eq1 : goal.returns-else-head-eq1
unfolding term_weights
returns-else-head-eq1 c =
    λ l s end b turns next o. rw c.in-Term.is (own-worked (term_weights c.in-Term.k) o (λ e. omega arith) (λ e. omega arith) c.if-head-eq1.false)
