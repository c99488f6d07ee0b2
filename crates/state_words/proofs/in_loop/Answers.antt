use Prim.Native.Nat.{ℕ}
use mathlib.Core.Bool.{not}
use mathlib.Core.Path.{ap, refl, ◌∙◌}
use lib.Dec.{eqb}
use Rattle.state_words.proofs.EntryLaws.{loop-last, loop-none}
use Rattle.state_words.proofs.in_loop.Goals as goal

pub returns-then-n-ne0 : goal.returns-then-n-ne0
returns-then-n-ne0 c = loop-last c.args.words.now c.args.n _ c.if-n-ne0.true refl

pub returns-else-n-ne0 : goal.returns-else-n-ne0
returns-else-n-ne0 c =
    ap (λ (k : ℕ). not (eqb k 0)) c.if-n-ne0.false ∙ loop-none c.args.words.now c.args.n c.if-n-ne0.false
