-- The stores in a row are the head of the let-one, by what its expression is.
use mathlib.Core.Path.{ap, refl, sym, ◌∙◌}
use Prim.Native.Nat.{ℕ, ◌+◌}
use native.Mathlib.Omega.{arith}
use Rattle.buffer.specs.Slice.{put}
use Rattle.record.specs.Kind.{kind_number}
use Rattle.record.proofs.KindLaws.{in_term-number}
use Rattle.translator.proofs.TranslationHeadsLaws.{high-stores, kind-high, kind-low, let_one_head-low, let_one_size-high, let_one_size-low}
use Rattle.translator.proofs.write_let_one.Goals as goal

pub returns-in-Literal : goal.returns-in-Literal
returns-in-Literal c =
    let a = c.args in
    let low = kind-low c.read_expression.ensures c.in-Literal.is in
    (c.write_lead.ensures ∙ ap (put a.out.now a.o) (sym (let_one_head-low a.src.now a.at a.n _ refl low)), ap (λ (y : ℕ). a.o + y) (sym (let_one_size-low a.src.now a.at a.n _ refl low)))

pub returns-in_default : goal.returns-in_default
returns-in_default c =
    let a = c.args in
    let room = c.requires in
    let high = kind-high c.read_expression.ensures c.in_default.not-Literal c.in_default.not-Variable c.requires.1 in
    let leaf = ap kind_number c.in_term.ensures ∙ in_term-number c.read_expression.ensures c.requires.1 c.requires.2 in
    (high-stores a.src.now a.at a.n _ refl a.out.now _ _ _ _ a.o _ _ _ high c.get_u32.ensures leaf c.get_u32-in_default.ensures c.put_head.ensures c.put_u32.ensures c.put_head-in_default.ensures c.put_leaf.ensures (omega arith), ap (λ (y : ℕ). a.o + y) (sym (let_one_size-high a.src.now a.at a.n _ refl high)))
