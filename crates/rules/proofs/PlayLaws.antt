-- THE MACHINE-GENERIC LIST LEMMA: where each order that a list may have moves the machine, any list of them leaves it as
-- many steps from its start as its total says.
use Prim.Native.Nat.{ℕ}
use mathlib.Core.Path.{ap, ◌∙◌}
use mathlib.Core.List.{List, [], ◌∷◌}
use Rattle.rules.specs.Play.{Each, Moves, Stands, plays}
use Rattle.rules.specs.Run.{iterate}
use Rattle.rules.specs.Syntax.{Answer}
use Rattle.rules.proofs.IterateLaws.{iterate-further}

module _ {A W I : Type 0} (f : A → Answer A) (total : W → ℕ) (act : W → I → W) (Holds : W → A → Type 0) (May : I → Type 0) where
  stands-act : (start : A) (w : W) (i : I) (s : Stands f total act Holds start w) → Moves f total act Holds w i s.state → Stands f total act Holds start (act w i)
  stands-act start w i s m = record {
    state = m.state;
    reached = ap (λ n. iterate f n start) m.counted ∙ iterate-further f (total w) m.count start s.state m.state s.reached m.stepped;
    holds = m.holds;
  }

  pub stands-plays : ((w : W) (i : I) (a : A) → May i → Holds w a → Moves f total act Holds w i a) → (start : A) (is : List I) (w : W) → Each May is → Stands f total act Holds start w → Stands f total act Holds start (plays act w is)
  unfolding plays
  stands-plays law start [] w h s = s
  stands-plays law start (i ∷ is) w h s = stands-plays law start is (act w i) h.1 (stands-act start w i s (law w i s.state h.0 s.holds))
