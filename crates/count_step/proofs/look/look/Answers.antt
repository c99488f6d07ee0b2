use native.Mathlib.Omega.{arith}
use mathlib.Core.Path.{sym, ◌∙◌, ◌≡◌}
use Rattle.place.specs.Path.{spot}
use Rattle.rules.specs.Store.{up_to}
use Rattle.rules.specs.Syntax.{empty}
use Rattle.count_step.proofs.ShapeLaws.{way-here}
use Rattle.count_step.proofs.StandingLaws.{here-asks}
use Rattle.count_step.proofs.LookLaws.{kind-some, look-away, look-closes, look-finished, look-next, look-over, spot-asks, walk_at, walk-low, walk-some}
use Rattle.count_step.proofs.look.look.Goals as goal

pub returns-in_default : goal.returns-in_default
returns-in_default c = λ P s h.
    look-away (up_to c.args.program.largest) c.args.store.now h c.requires.1 c.in_default.not-Here

pub returns-then-n-eq0 : goal.returns-then-n-eq0
returns-then-n-eq0 c = λ P s h.
    let v = way-here h c.requires.1 c.in-Here.here c.in-Here.is in
    look-finished (up_to c.args.program.largest) v.4 c.args.store.now s v.3 (sym v.5 ∙ c.in-End.is) c.if-n-eq0.true

pub returns-else-n-eq0 : goal.returns-else-n-eq0
returns-else-n-eq0 c = λ P s h.
    let v = way-here h c.requires.1 c.in-Here.here c.in-Here.is in
    look-closes (up_to c.args.program.largest) v.4 c.args.store.now s v.3 (sym v.5 ∙ c.in-End.is) c.if-n-eq0.false

pub place-i-requires : goal.place-i-requires
place-i-requires c =
    here-asks (way-here c.requires.0.2 c.requires.1 c.in-Here.here c.in-Here.is).4

pub overflow_add-program : goal.overflow_add-program
overflow_add-program c =
    omega (arith, walk-low (way-here c.requires.0.2 c.requires.1 c.in-Here.here c.in-Here.is).4 c.place-i.result c.place-i.ensures)

pub open_levels-levels-requires : goal.open_levels-levels-requires
open_levels-levels-requires c =
    let v = way-here c.requires.0.2 c.requires.1 c.in-Here.here c.in-Here.is in
    let n : v.2 ≡ empty → ⊥ = kind-some v.2 (λ z. c.in_default-here.not-End (v.5 ∙ z)) in
    (v.2, (walk_at v.4 c.place-i.result c.place-i.ensures, walk-some v.4 c.place-i.result c.place-i.ensures n))

pub overflow_mul-levels : goal.overflow_mul-levels
overflow_mul-levels c =
    let v = way-here c.requires.0.2 c.requires.1 c.in-Here.here c.in-Here.is in
    let n : v.2 ≡ empty → ⊥ = kind-some v.2 (λ z. c.in_default-here.not-End (v.5 ∙ z)) in
    let j = c.place-i.result in
    let a = spot-asks v.4 j c.place-i.ensures n c.open_levels-levels.result (c.open_levels-levels.ensures v.2 (walk_at v.4 j c.place-i.ensures) (walk-some v.4 j c.place-i.ensures n)) in
    omega (arith, a.low)

pub overflow_add-i : goal.overflow_add-i
overflow_add-i c =
    let v = way-here c.requires.0.2 c.requires.1 c.in-Here.here c.in-Here.is in
    let n : v.2 ≡ empty → ⊥ = kind-some v.2 (λ z. c.in_default-here.not-End (v.5 ∙ z)) in
    let j = c.place-i.result in
    let a = spot-asks v.4 j c.place-i.ensures n c.open_levels-levels.result (c.open_levels-levels.ensures v.2 (walk_at v.4 j c.place-i.ensures) (walk-some v.4 j c.place-i.ensures n)) in
    omega (arith, a.low)

pub over_at-requires : goal.over_at-requires
over_at-requires c =
    let v = way-here c.requires.0.2 c.requires.1 c.in-Here.here c.in-Here.is in
    let n : v.2 ≡ empty → ⊥ = kind-some v.2 (λ z. c.in_default-here.not-End (v.5 ∙ z)) in
    let j = c.place-i.result in
    let a = spot-asks v.4 j c.place-i.ensures n c.open_levels-levels.result (c.open_levels-levels.ensures v.2 (walk_at v.4 j c.place-i.ensures) (walk-some v.4 j c.place-i.ensures n)) in
    (spot v.2, (a.is, (a.at, a.scope)))

pub returns-then-over_at : goal.returns-then-over_at
returns-then-over_at c = λ P s h.
    let v = way-here h c.requires.1 c.in-Here.here c.in-Here.is in
    let n : v.2 ≡ empty → ⊥ = kind-some v.2 (λ z. c.in_default-here.not-End (v.5 ∙ z)) in
    let j = c.place-i.result in
    let a = spot-asks v.4 j c.place-i.ensures n c.open_levels-levels.result (c.open_levels-levels.ensures v.2 (walk_at v.4 j c.place-i.ensures) (walk-some v.4 j c.place-i.ensures n)) in
    look-over (up_to c.args.program.largest) v.4 c.args.store.now s v.3 c.over_at.result (c.over_at.ensures (spot v.2) a.is a.at a.scope) c.if-over_at.true

pub returns-else-over_at : goal.returns-else-over_at
returns-else-over_at c = λ P s h.
    let v = way-here h c.requires.1 c.in-Here.here c.in-Here.is in
    let n : v.2 ≡ empty → ⊥ = kind-some v.2 (λ z. c.in_default-here.not-End (v.5 ∙ z)) in
    let j = c.place-i.result in
    let a = spot-asks v.4 j c.place-i.ensures n c.open_levels-levels.result (c.open_levels-levels.ensures v.2 (walk_at v.4 j c.place-i.ensures) (walk-some v.4 j c.place-i.ensures n)) in
    look-next (up_to c.args.program.largest) v.4 c.args.store.now s v.3 n c.over_at.result (c.over_at.ensures (spot v.2) a.is a.at a.scope) c.if-over_at.false
