-- Every term that stands in the buffer has this plan, so the two calls are its reduction.
use native.Mathlib.Omega.{arith}
use Rattle.reducing.proofs.PerformLaws.{performs, ready-fits}
use Rattle.record.proofs.HeaderLaws.{contents_at-low}
use Rattle.reducing.proofs.perform.Goals as goal

pub edit-replaced-requires : goal.edit-replaced-requires
edit-replaced-requires c =
    let h = c.requires.1.1.0 in
    ((ready-fits c.args.p h c.requires.1.1.1.0 c.requires.1.1.1.1).edit, h.stands.holds.within, h.stands.short)

pub relength-requires : goal.relength-requires
relength-requires c =
    let q = c.requires.1.1.1.1 in
    let low = contents_at-low c.requires.0 in
    let f = ready-fits c.args.p c.requires.1.1.0 c.requires.1.1.1.0 q in
    omega (arith, c.edit-replaced.auto.buf)

pub overflow_add-result : goal.overflow_add-result
overflow_add-result c =
    let h = c.requires.1.1.0 in
    let f = ready-fits c.args.p h c.requires.1.1.1.0 c.requires.1.1.1.1 in
    omega (arith, h.stands.short, h.stands.holds.within)

pub overflow_sub-result : goal.overflow_sub-result
overflow_sub-result c =
    let h = c.requires.1.1.0 in
    let f = ready-fits c.args.p h c.requires.1.1.1.0 c.requires.1.1.1.1 in
    omega (arith, h.stands.short, h.stands.holds.within)

pub returns : goal.returns
returns c =
    let g = c.requires.1.1.0 in
    λ hd t h e is-k q. performs h _ _ is-k q c.args.p e g.moves g.fits _ _ _ c.edit-replaced.ensures c.relength.ensures
