-- Every program that stands in the buffer has this plan, so the three calls are its step.
use native.Mathlib.Omega.{arith}
use Rattle.record.proofs.HeaderLaws.{contents_at-low}
use Rattle.stepping.proofs.PerformLaws.{performs-is, ready-fits}
use Rattle.stepping.proofs.perform.Goals as goal

pub edit-requires : goal.edit-requires
edit-requires c =
    let h = c.requires.1.1.0 in
    ((ready-fits c.args.p h).edit, h.stands.holds.within, h.stands.short)

pub overflow_add-p : goal.overflow_add-p
overflow_add-p c =
    let h = c.requires.1.1.0 in
    let f = ready-fits c.args.p h in
    omega (arith, c.edit.auto.buf, h.stands.short)

pub relength-requires : goal.relength-requires
relength-requires c =
    let h = c.requires.1.1.0 in
    let q = c.requires.1.1.1 in
    let low = contents_at-low c.requires.0 in
    let f = ready-fits c.args.p h in
    omega (arith, c.edit.auto.buf, h.stands.short)

pub keep_value-requires : goal.keep_value-requires
keep_value-requires c =
    (ready-fits c.args.p c.requires.1.1.0).value

pub overflow_add-result : goal.overflow_add-result
overflow_add-result c =
    let h = c.requires.1.1.0 in
    let f = ready-fits c.args.p h in
    omega (arith, h.stands.short, h.stands.holds.within)

pub overflow_sub-result : goal.overflow_sub-result
overflow_sub-result c =
    let h = c.requires.1.1.0 in
    let f = ready-fits c.args.p h in
    omega (arith, h.stands.short, h.stands.holds.within)

pub returns : goal.returns
returns c =
    let g = c.requires.1.1.0 in
    λ hd P h e q. performs-is h _ q c.args.p e g.moves g.fits _ _ _ c.edit.ensures c.relength.ensures c.keep_value.ensures
