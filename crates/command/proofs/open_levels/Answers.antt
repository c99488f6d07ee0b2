use Rattle.std.proofs.Common.{◌+◌, ◌*◌, ◌≤◌, length, arith, rules}
use Rattle.place.specs.Path.{path}
use Rattle.plan.proofs.LevelsLaws.{heads-count, heads-end, heads-room}
use Rattle.command.proofs.LevelsLaws.{walks}
use Rattle.command.proofs.open_levels.Goals as goal

pub levels-requires : goal.levels-requires
levels-requires c =
    let room = heads-room (walks c.requires.1.0 c.requires.1.1) in (
      length (path c.requires.0),
      omega (arith, room (length (path c.requires.0))),
      λ i h. let r : c.args.start + 4 * i + 4 ≤ length c.args.buf.now = room i h in search rules,
      λ e. heads-end (walks c.requires.1.0 c.requires.1.1) (search rules),
    )

pub returns : goal.returns
returns c =
    λ P h s.
    heads-count (walks h s) c.levels.result (λ j k. let e = c.levels.ensures.all_open j k in search rules) (search (rules, c.levels.ensures.stops))
