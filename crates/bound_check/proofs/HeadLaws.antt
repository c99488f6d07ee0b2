-- What a pass knows of the command that it has come to, by the kind that it reads there.
use Prim.Native.Nat.{◌+◌, ◌<◌, ◌≤◌, ℕ}
use mathlib.Core.Path.{◌≡◌, ap, refl, subst, sym, ◌∙◌}
use mathlib.Core.Bool.{◌&&◌, ◌||◌, Bool}
use mathlib.Core.List.{List}
use lib.Dec.{eqb}
use lib.ListN.{length}
use native.Mathlib.Omega.{arith}
use Rattle.buffer.specs.LittleEndian.{val}
use Rattle.buffer.specs.Slice.{part}
use Rattle.rules.specs.Scope.{BlockWithin, BoundWithin, Within}
use Rattle.rules.specs.Syntax.{Block, Bound, append, assign, loop, nest}
use Rattle.place.specs.ProgramView.{BlockAt, CommandView, first_assign, first_loop, first_nest}
use Rattle.place.proofs.ProgramBytesLaws.{block_size-append}
use Rattle.place.proofs.ProgramViewLaws.{block-index, block_same, command-view}
use Rattle.forecast.specs.Rows.{RowOf}
use Rattle.forecast.specs.Steady.{assigned, bound_outside, bounds_outside}
use Rattle.record.specs.Kind.{kind_named}
use Rattle.record.proofs.KindLaws.{known-named}
use Rattle.record.specs.declared.kind.Kind.{Kind}
use Rattle.record.specs.declared.kind.Kind.TheVariants as variant
use Rattle.bound_check.specs.Marks.{head_size}
use Rattle.bound_check.proofs.PassLaws.{assigned-loop, assigned-nest, outside-loop, outside-nest, within-append}

-- The row from p up to q is b, of whose first command the kind is known: what follows its head is `rest`. A command that is no block
-- assigns the variable whose number it has at p + 4, and a loop has a bound.
pub record Passed (l : List ℕ) (k p q : ℕ) (b : Block) (kind : Kind) : Type 0 where
  pub rest : Block
  pub row : RowOf l k (p + head_size kind) q rest
  pub forward : 4 ≤ head_size kind
  pub room : p + 4 ≤ length l
  pub named : (kind ≡ variant.Block → ⊥) → (p + 16 ≤ length l) × Within k (val (part l (p + 4) 4)) × ((y : ℕ) → assigned b y ≡ (eqb y (val (part l (p + 4) 4)) || assigned rest y))
  pub nameless : kind ≡ variant.Block → (y : ℕ) → assigned b y ≡ assigned rest y
  pub bounded : kind ≡ variant.Loop → (x : ℕ) × ((m : Bound) × ((c : Block) × ((r : Block) × (BlockAt l p (loop x m c r) × (BoundWithin k m × ((S : ℕ → Bool) → bounds_outside S b ≡ (bound_outside S m && bounds_outside S rest)))))))
  pub boundless : (kind ≡ variant.Loop → ⊥) → (S : ℕ → Bool) → bounds_outside S b ≡ bounds_outside S rest

pub pass : {l : List ℕ} {k p q : ℕ} {b : Block} {kind : Kind} → RowOf l k p q b → p < q → kind ≡ kind_named (val (part l (p + 2) 2)) → Passed l k p q b kind
pass {l} {k} {p} {q} {b} h more e =
    subst (Passed l k p q b) (sym e) (go (val (part l (p + 2) 2)) (command-view h.here (omega (arith, h.ends))))
  where
    go : (j : ℕ) → CommandView l p b j → Passed l k p q b (kind_named j)
    go _ (first_nest v) =
        let w : BlockWithin k (nest v.body v.rest) = subst (BlockWithin k) v.is h.within in
        let z = block_size-append v.body v.rest in
        subst (Passed l k p q b) (known-named variant.Block tt) (record {
          rest = append v.body v.rest;
          row = record {
            here = block-index v.flat (omega (arith));
            ends = omega (arith, v.size, h.ends);
            within = within-append k v.body v.rest w.0 w.1;
          };
          forward = omega (arith);
          room = omega (arith, v.room, v.size);
          named = λ f. absurd (f refl);
          nameless = λ f y. ap (λ (c : Block). assigned c y) v.is ∙ assigned-nest y v.body v.rest;
          bounded = λ f. absurd (cc);
          boundless = λ f S. ap (bounds_outside S) v.is ∙ outside-nest S v.body v.rest;
        })
    go _ (first_assign v) =
        let w : BlockWithin k (assign v.variable v.expr v.rest) = subst (BlockWithin k) v.is h.within in
        subst (Passed l k p q b) (known-named variant.Assignment tt) (record {
          rest = v.rest;
          row = record {
            here = block-index v.after (omega (arith));
            ends = omega (arith, v.size, h.ends);
            within = w.2;
          };
          forward = omega (arith);
          room = omega (arith, v.room, v.size);
          named = λ f. (
            omega (arith, v.room, v.size),
            subst (Within k) (sym v.variable-read) w.0,
            λ y. ap (λ (c : Block). assigned c y) v.is ∙ (unfold assigned in ap (λ (x : ℕ). eqb y x || assigned v.rest y) (sym v.variable-read)),
          );
          nameless = λ f. absurd (cc);
          bounded = λ f. absurd (cc);
          boundless = λ f S. ap (bounds_outside S) v.is ∙ (unfold bounds_outside in refl);
        })
    go _ (first_loop v) =
        let w : BlockWithin k (loop v.variable v.bound v.body v.rest) = subst (BlockWithin k) v.is h.within in
        let z = block_size-append v.body v.rest in
        subst (Passed l k p q b) (known-named variant.Loop tt) (record {
          rest = append v.body v.rest;
          row = record {
            here = block-index v.flat (omega (arith));
            ends = omega (arith, v.size, h.ends);
            within = within-append k v.body v.rest w.2 w.3;
          };
          forward = omega (arith);
          room = omega (arith, v.room, v.size);
          named = λ f. (
            omega (arith, v.room, v.size),
            subst (Within k) (sym v.variable-read) w.0,
            λ y. ap (λ (c : Block). assigned c y) v.is ∙ assigned-loop y v.variable v.bound v.body v.rest
                ∙ ap (λ (x : ℕ). eqb y x || assigned (append v.body v.rest) y) (sym v.variable-read),
          );
          nameless = λ f. absurd (cc);
          bounded = λ f. (v.variable, (v.bound, (v.body, (v.rest, (block_same h.here v.is, (w.1, λ S. ap (bounds_outside S) v.is ∙ outside-loop S v.variable v.bound v.body v.rest))))));
          boundless = λ f. absurd (f refl);
        })
