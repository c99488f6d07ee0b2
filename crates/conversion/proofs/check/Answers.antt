use mathlib.Core.Path.{ap, sym, ◌∙◌}
use Rattle.record.specs.declared.Sort.{Sort}
use Rattle.conversion.specs.Converting.{check_sort}
use Rattle.conversion.proofs.check.Goals as goal

pub returns-in-Program-clause-checks : goal.returns-in-Program-clause-checks
returns-in-Program-clause-checks c =
    c.check_program.ensures.checks ∙ ap (λ (s : Sort). check_sort s c.args.src.now c.args.used) (sym c.in-Program.is)

pub returns-in-Term-clause-checks : goal.returns-in-Term-clause-checks
returns-in-Term-clause-checks c =
    c.check_term.ensures.checks ∙ ap (λ (s : Sort). check_sort s c.args.src.now c.args.used) (sym c.in-Term.is)
