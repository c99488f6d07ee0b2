use Prim.Native.Nat.{ℕ}
use mathlib.Core.Path.{◌≡◌, ap, sym, ◌∙◌}
use Rattle.std.proofs.Common.{List, ◌⊎◌, inl, inr}
use Rattle.record.specs.Alone.{record_kind}
use Rattle.reader.specs.Head.{head_at}
use Rattle.reader.specs.declared.Head.TheVariants.{Record}
use Rattle.term_checker.specs.TermVerdict.{atom_rating}
use Rattle.record.specs.declared.kind.Kind.{Kind}
use Rattle.record.specs.declared.kind.Kind.TheVariants.{Pred, Succ}
use Rattle.record.specs.Kind.{kind_named}
use Rattle.record.specs.Term.{only_atom}
use Rattle.checker.specs.Verdict.{verdict}
use Rattle.term_checker.specs.RecordAt.{record_at}
use Rattle.term_checker.proofs.WalkLaws.{kind_here, kind-other, none_here}
use Rattle.term_checker.proofs.TermWalkLaws.{atom-none, inner-none, inner-record, simple-none}
use Rattle.term_checker.proofs.TermVerdictLaws.{none-malformed}
use Rattle.term_checker.proofs.TermOpensLaws.{plain-verdict, wrapped-verdict}
use Rattle.term_checker.proofs.check_simple.Goals as goal

-- Around an atom stands a succ or a pred.
around : (l : List ℕ) (at : ℕ) {n m : ℕ} {r : Kind} → Record n m ≡ head_at l at → r ≡ kind_named m → (r ≡ Succ) ⊎ (r ≡ Pred)
    → (record_kind (record_at l at) ≡ 34) ⊎ (record_kind (record_at l at) ≡ 35)
around l at e named (inl f) = inl (kind_here l at e (sym f ∙ named))
around l at e named (inr f) = inr (kind_here l at e (sym f ∙ named))

pub returns-in_default : goal.returns-in_default
returns-in_default c = none-malformed _ (simple-none _ (none_here _ _ c.head_at.ensures c.in_default.not-Record))

pub returns-then-after : goal.returns-then-after
returns-then-after c =
    let limits = c.args.limits in
    none-malformed _ (atom-none _ (inner-none c.args.s.now c.args.at (λ q. c.if-after.true (c.after.ensures ∙ q ∙ sym c.after-in-Succ.ensures))))
    ∙ sym (wrapped-verdict limits.k limits.largest _ (around _ _ c.in-Record.ensures c.named.ensures c.in-Succ.is))

pub returns-else-after : goal.returns-else-after
returns-else-after c =
    let limits = c.args.limits in
    c.check_atom.ensures
    ∙ ap (λ b. verdict (atom_rating limits.k limits.largest) (only_atom b)) (inner-record c.args.s.now c.args.at (sym c.after.ensures ∙ c.if-after.false ∙ c.after-in-Succ.ensures))
    ∙ sym (wrapped-verdict limits.k limits.largest _ (around _ _ c.in-Record.ensures c.named.ensures c.in-Succ.is))

pub returns-in_default-named : goal.returns-in_default-named
returns-in_default-named c =
    let limits = c.args.limits in
    let other = c.in_default-named in
    c.check_atom-in_default-named.ensures
    ∙ sym (plain-verdict limits.k limits.largest _ (kind-other _ _ c.in-Record.ensures Succ tt c.named.ensures other.not-Succ) (kind-other _ _ c.in-Record.ensures Pred tt c.named.ensures other.not-Pred))
