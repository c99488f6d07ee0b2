-- A sound configuration: a step keeps it sound.
use Prim.Native.Nat.{suc, zero, ℕ}
use mathlib.Core.Path.{refl, ◌≡◌}
use mathlib.Core.Bool.{Bool, cond, false, true}
use mathlib.Core.List.{List, [], ◌∷◌}
use mathlib.Core.Option.{some}
use lib.ListN.{get_or, set}
use Rattle.rules.specs.Run.{iterate}
use Rattle.rules.specs.Sound.{SmallBlock, SmallBound, SmallExpr, SmallValues, SoundConfig}
use Rattle.rules.specs.Step.{bound_value, step, step_assign, step_block, step_inside, unroll_loop}
use Rattle.rules.specs.Store.{Limit, lookup, update}
use Rattle.rules.specs.Syntax.{Answer, Block, Bound, Config, Expr, assign, dec, empty, finished, inc, lit, loop, nest, next, over, upto, upto_var, var}
use Rattle.rules.proofs.IterateLaws.{OnNext, iterate-keeps}
use Rattle.rules.proofs.ScopeLaws.{WithinAnswer, within_step}
use Rattle.rules.proofs.StoreLaws.{minus_one-passes}

module _ (ok : ℕ → Bool) (limit : Limit ok) where
  -- VALUES PASS

  small-set : (s : List ℕ) (i v : ℕ) → SmallValues ok s → ok v ≡ true → SmallValues ok (set s i v)
  small-set [] i v hs hv = tt
  small-set (w ∷ s) zero v hs hv = (hv, hs.1)
  small-set (w ∷ s) (suc i) v hs hv = (hs.0, small-set s i v hs.1 hv)

  small-get_d : (s : List ℕ) (i : ℕ) → SmallValues ok s → ok (get_or s i 0) ≡ true
  small-get_d [] i hs = limit.zero_passes
  small-get_d (w ∷ s) zero hs = hs.0
  small-get_d (w ∷ s) (suc i) hs = small-get_d s i hs.1

  pub small-update : (s : List ℕ) (x v : ℕ) → SmallValues ok s → ok v ≡ true → SmallValues ok (update s x v)
  unfolding update
  small-update s zero v hs hv = hs
  small-update s (suc i) v hs hv = small-set s i v hs hv

  pub small-lookup : (s : List ℕ) (x : ℕ) → SmallValues ok s → ok (lookup s x) ≡ true
  unfolding lookup
  small-lookup s zero hs = limit.zero_passes
  small-lookup s (suc i) hs = small-get_d s i hs

  pub record SmallConfig (c : Config) : Type 0 where
    pub literals : SmallBlock ok c.block
    pub values : SmallValues ok c.store

  abbrev SmallAnswer : Answer Config → Type 0
  SmallAnswer (finished s) = SmallValues ok s
  SmallAnswer over = Unit {0}
  SmallAnswer (next c) = SmallConfig c

  small-assign : (x : ℕ) (e : Expr) (r : Block) (s : List ℕ) → SmallExpr ok e → SmallBlock ok r → SmallValues ok s → SmallAnswer (step_assign ok x e r s)
  unfolding step_assign
  small-assign x (lit n) r s he hr hs = record { literals = hr; values = small-update s x n hs he }
  small-assign x (var y) r s he hr hs = record { literals = hr; values = small-update s x (lookup s y) hs (small-lookup s y hs) }
  small-assign x (inc y) r s he hr hs = test (ok (suc (lookup s y))) refl
    where
      test : (b : Bool) → ok (suc (lookup s y)) ≡ b → SmallAnswer (cond b (next (record { block = assign x (lit (suc (lookup s y))) r; store = s })) over)
      test true e = record { literals = (e, hr); values = hs }
      test false e = tt
  small-assign x (dec y) r s he hr hs = record { literals = (minus_one-passes ok limit (lookup s y) (small-lookup s y hs), hr); values = hs }

  pub small-bound : (s : List ℕ) (b : Bound) → SmallBound ok b → SmallValues ok s → ok (bound_value s b) ≡ true
  unfolding bound_value
  small-bound s (upto n) h hs = h
  small-bound s (upto_var x) h hs = small-lookup s x hs

  small-turn : (x n : ℕ) (body r : Block) → ok n ≡ true → SmallBlock ok body → SmallBlock ok r → SmallBlock ok (unroll_loop x n body r)
  unfolding unroll_loop
  small-turn x zero body r hn hb hr = (tt, hr)
  small-turn x (suc q) body r hn hb hr = ((limit.below_passes q hn, hb, (hn, hb)), hr)

  small-inside : (r : Block) → SmallBlock ok r → (a : Answer Config) → SmallAnswer a → SmallAnswer (step_inside r a)
  unfolding step_inside
  small-inside r hr (finished s) g = record { literals = hr; values = g }
  small-inside r hr over g = tt
  small-inside r hr (next c) g = record { literals = (g.literals, hr); values = g.values }

  small-in : (b : Block) (s : List ℕ) → SmallBlock ok b → SmallValues ok s → SmallAnswer (step_block ok b s)
  unfolding step_block
  small-in empty s h hs = hs
  small-in (assign x e r) s h hs = small-assign x e r s h.0 h.1 hs
  small-in (loop x b body r) s h hs = record { literals = small-turn x (bound_value s b) body r (small-bound s b h.0 hs) h.1 h.2; values = hs }
  small-in (nest b r) s h hs = small-inside r h.1 (step_block ok b s) (small-in b s h.0 hs)

  small-step : (c : Config) → SmallConfig c → SmallAnswer (step ok c)
  unfolding step
  small-step c g = small-in c.block c.store g.literals g.values

  -- A STEP KEEPS A CONFIGURATION SOUND, AND SO DOES ANY NUMBER OF THEM

  sound-next : (k : ℕ) (a : Answer Config) → WithinAnswer k a → SmallAnswer a → OnNext (SoundConfig ok k) a
  sound-next k (finished s) w h = tt
  sound-next k over w h = tt
  sound-next k (next c) w h = record { variables = w; literals = h.literals; values = h.values }

  pub sound-step : (k : ℕ) (c : Config) → SoundConfig ok k c → OnNext (SoundConfig ok k) (step ok c)
  sound-step k c g =
      sound-next k (step ok c) (within_step ok k c g.variables) (small-step c (record { literals = g.literals; values = g.values }))

  pub sound-steps : (k n : ℕ) (c d : Config) → SoundConfig ok k c → iterate (step ok) n c ≡ some d → SoundConfig ok k d
  sound-steps k = iterate-keeps (step ok) (SoundConfig ok k) (sound-step k)
