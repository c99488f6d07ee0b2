use mathlib.Core.Path.{ap₂, sym}
use Rattle.record.specs.declared.Sort.{Sort}
use Rattle.record.specs.declared.Edition.{Edition}
use Rattle.record.specs.Header.{form_of, kind_of}
use Rattle.record.proofs.Header.kind_of.Goals as goal

pub returns-in-Program : goal.returns-in-Program
unfolding kind_of form_of
returns-in-Program c = ap₂ (λ (s : Sort) (e : Edition). kind_of s (record { k = c.args.self.k; edition = e })) (sym c.in-Program.is) (sym c.in-First.is)

pub returns-in-Term : goal.returns-in-Term
unfolding kind_of form_of
returns-in-Term c = ap₂ (λ (s : Sort) (e : Edition). kind_of s (record { k = c.args.self.k; edition = e })) (sym c.in-Term.is) (sym c.in-First.is)

pub returns-in-Program-sort : goal.returns-in-Program-sort
unfolding kind_of form_of
returns-in-Program-sort c = ap₂ (λ (s : Sort) (e : Edition). kind_of s (record { k = c.args.self.k; edition = e })) (sym c.in-Program-sort.is) (sym c.in-Second.is)

pub returns-in-Term-sort : goal.returns-in-Term-sort
unfolding kind_of form_of
returns-in-Term-sort c = ap₂ (λ (s : Sort) (e : Edition). kind_of s (record { k = c.args.self.k; edition = e })) (sym c.in-Term-sort.is) (sym c.in-Second.is)
