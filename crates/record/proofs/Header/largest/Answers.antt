use mathlib.Core.Path.{ap, sym}
use Rattle.record.specs.declared.Edition.{Edition}
use Rattle.record.specs.Header.{form_of, largest_of}
use Rattle.record.proofs.Header.largest.Goals as goal

pub returns-in-First : goal.returns-in-First
unfolding largest_of form_of
returns-in-First c = ap (λ (e : Edition). (form_of e).largest) (sym c.in-First.is)

pub returns-in-Second : goal.returns-in-Second
unfolding largest_of form_of
returns-in-Second c = ap (λ (e : Edition). (form_of e).largest) (sym c.in-Second.is)
