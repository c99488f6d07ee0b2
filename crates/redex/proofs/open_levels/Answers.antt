use Rattle.std.proofs.Common.{◌≡◌, ◌+◌, ◌*◌, ◌≤◌, length, arith, rules}
use Rattle.buffer.specs.LittleEndian.{val}
use Rattle.buffer.specs.Slice.{part}
use Rattle.place.specs.TermPath.{term_path}
use Rattle.place.proofs.TermPathLaws.{term_walk-first}
use Rattle.plan.proofs.LevelsLaws.{come-to, heads-count, heads-end, heads-room}
use Rattle.redex.proofs.LevelsLaws.{walks}
use Rattle.redex.proofs.open_levels.Goals as goal

pub levels-requires : goal.levels-requires
levels-requires c =
    let h = c.requires.1.1 in
    let t = c.requires.1.0 in
    let l = c.args.buf.now in
    let room = heads-room (walks h) in (
      length (term_path t),
      omega (arith, room (length (term_path t))),
      λ i b.
          let r : c.args.contents + 4 * i + 4 ≤ length c.args.buf.now = room i b in
          let f : val (part c.args.buf.now (c.args.contents + 4 * i + 2) 2) ≡ 38 → c.args.contents + 4 * i + 8 ≤ length c.args.buf.now = term_walk-first h (come-to (walks h) i b) in
          search rules,
      λ e. heads-end (walks h) (search rules),
    )

pub returns : goal.returns
returns c =
    λ k t h.
    heads-count (walks h) c.levels.result (λ j b. let e = c.levels.ensures.all_open j b in search rules) (search (rules, c.levels.ensures.stops))
