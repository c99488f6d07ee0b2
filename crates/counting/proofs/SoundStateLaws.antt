-- A SOUND STATE: of a sound program, with values that pass, it expands to a sound configuration, and a step keeps it so.
use Prim.Native.Nat.{◌+◌, suc, zero, ℕ}
use mathlib.Core.Path.{refl, subst, sym, ◌≡◌}
use mathlib.Core.Bool.{Bool, cond, false, true}
use mathlib.Core.List.{List}
use mathlib.Core.Option.{some-injective, some}
use lib.ListN.{length}
use native.Mathlib.Nat.{add-suc, add-zero, zero-add}
use native.Mathlib.Omega.{arith}
use Rattle.record.specs.Program.{block_size}
use Rattle.record.proofs.ReadingLaws.{none-inv, pick_inv}
use Rattle.rules.specs.Scope.{BlockWithin, Within}
use Rattle.rules.specs.Sound.{SmallBlock, SmallExpr, SmallValues, SoundConfig}
use Rattle.rules.specs.Step.{bound_value}
use Rattle.rules.specs.Store.{Limit, lookup}
use Rattle.rules.specs.Syntax.{Answer, Block, Bound, Expr, assign, dec, empty, finished, inc, lit, loop, nest, next, over, upto, var}
use Rattle.rules.proofs.IterateLaws.{OnNext}
use Rattle.rules.proofs.SoundConfigLaws.{small-bound, small-lookup, small-update}
use Rattle.rules.proofs.StoreLaws.{minus_one-passes}
use Rattle.counting.specs.CountStep.{count_step, enter_loop, step_here, step_in, step_state, step_sum, turn_done}
use Rattle.counting.specs.Counting.{Counting, State, at_zero, expand, expand_config, here, in_block, in_body, storing, summed, turns_around, unrolling}
use Rattle.counting.specs.Place.{body_at, inside_at, rest_at}
use Rattle.counting.specs.SmallState.{SmallState}
use Rattle.counting.specs.StateOf.{StateOf}

module _ (ok : ℕ → Bool) (limit : Limit ok) (k : ℕ) where
  -- A SOUND BLOCK

  -- Its variables are 1 to k, and its literals pass.
  abbrev pub SoundBlock : Block → Type 0
  SoundBlock b = BlockWithin k b × SmallBlock ok b

  sound-assign : (x v : ℕ) (r : Block) → Within k x → ok v ≡ true → SoundBlock r → SoundBlock (assign x (lit v) r)
  sound-assign x v r hx hv hr = ((hx, tt, hr.0), (hv, hr.1))

  sound-loop : (x c : ℕ) (q r : Block) → Within k x → ok c ≡ true → SoundBlock q → SoundBlock r → SoundBlock (loop x (upto c) q r)
  sound-loop x c q r hx hc hq hr = ((hx, tt, hq.0, hr.0), (hc, hq.1, hr.1))

  sound-nest : (q r : Block) → SoundBlock q → SoundBlock r → SoundBlock (nest q r)
  sound-nest q r hq hr = ((hq.0, hr.0), (hq.1, hr.1))

  -- what is left of a sound block is sound
  rest-sound : (b : Block) (a p : ℕ) (r : Block) → rest_at b a p ≡ some r → SoundBlock b → SoundBlock r
  unfolding rest_at
  rest-sound empty a p = pick_inv (λ r. SoundBlock empty → SoundBlock r) p a _ _ (λ r h e. subst SoundBlock (some-injective empty r e)) (none-inv (λ r. SoundBlock empty → SoundBlock r))
  rest-sound (assign x y t) a p =
      pick_inv (λ r. SoundBlock (assign x y t) → SoundBlock r) p a _ _ (λ r h e. subst SoundBlock (some-injective (assign x y t) r e))
      (λ r e g. rest-sound t (a + 16) p r e (g.0.2, g.1.1))
  rest-sound (loop x n q t) a p =
      pick_inv (λ r. SoundBlock (loop x n q t) → SoundBlock r) p a _ _ (λ r h e. subst SoundBlock (some-injective (loop x n q t) r e))
      (λ r e g. rest-sound t (a + (20 + block_size q)) p r e (g.0.3, g.1.2))
  rest-sound (nest q t) a p =
      pick_inv (λ r. SoundBlock (nest q t) → SoundBlock r) p a _ _ (λ r h e. subst SoundBlock (some-injective (nest q t) r e))
      (λ r e g. rest-sound t (a + (4 + block_size q)) p r e (g.0.1, g.1.1))

  -- THE EXPANSION IS SOUND

  passes-less : (d c : ℕ) → ok (c + d) ≡ true → ok c ≡ true
  passes-less zero c h = subst (λ (n : ℕ). ok n ≡ true) (add-zero c) h
  passes-less (suc d) c h = passes-less d c (limit.below_passes (c + d) (subst (λ (n : ℕ). ok n ≡ true) (add-suc c d) h))

  turns-sound : (x c : ℕ) (q : Block) (first : Block → Block) → Within k x → SoundBlock q → ((r : Block) → SoundBlock r → SoundBlock (first r))
      → (d : ℕ) (r : Block) → ok (c + d) ≡ true → SoundBlock r → SoundBlock (turns_around x c q first d r)
  unfolding turns_around
  turns-sound x c q first hx hq hf zero r hd hr = hf r hr
  turns-sound x c q first hx hq hf (suc d) r hd hr =
      let top : ok (suc (c + d)) ≡ true = subst (λ (n : ℕ). ok n ≡ true) (add-suc c d) hd in
      sound-nest (turns_around x c q first d (assign x (lit (suc (c + d))) q)) r (turns-sound x c q first hx hq hf d (assign x (lit (suc (c + d))) q) (limit.below_passes (c + d) top) (sound-assign x (suc (c + d)) q hx top hq)) hr

  module _ (x : ℕ) (n : Bound) (q r : Block) (g : SoundBlock (loop x n q r)) where
    -- of a loop that stands in a sound block
    loop-sound : (c d : ℕ) (first : Block → Block) → ((t : Block) → SoundBlock t → SoundBlock (first t)) → ok (c + d) ≡ true → SoundBlock (turns_around x c q first d r)
    loop-sound c d first h hd = turns-sound x c q first g.0.0 (g.0.2, g.1.1) h d r hd (g.0.3, g.1.2)

  pub expand-sound : (s : State) (b : Block) (a : ℕ) → SoundBlock b → StateOf b a s → SmallState ok s → SoundBlock (expand s)
  unfolding expand
  expand-sound (here r) b a g h m = rest-sound b a h.0 r h.1 g
  expand-sound (summed x e v r) b a g h m = let t = rest-sound b a h.1.0 (assign x e r) h.1.1 g in sound-assign x v r t.0.0 m (t.0.2, t.1.1)
  expand-sound (in_block q s r) b a g h m =
      let t = rest-sound b a h.0 (nest q r) h.1 g in
      sound-nest (expand s) r (expand-sound s q (inside_at h.0) (t.0.0, t.1.0) h.2 m) (t.0.1, t.1.1)
  expand-sound (unrolling x c d q r) b a g h m =
      let t = rest-sound b a h.1.0 (loop x h.0 q r) h.1.1 g in
      loop-sound x h.0 q r t c d (loop x (upto c) q) (λ u hu. sound-loop x c q u t.0.0 (passes-less d c m) (t.0.2, t.1.1) hu) m
  expand-sound (at_zero x d q r) b a g h m =
      let t = rest-sound b a h.1.0 (loop x h.0 q r) h.1.1 g in
      loop-sound x h.0 q r t 0 d (nest empty) (λ u hu. sound-nest empty u (tt, tt) hu) (subst (λ (n : ℕ). ok n ≡ true) (sym (zero-add d)) m)
  expand-sound (storing x c d q r) b a g h m =
      let t = rest-sound b a h.1.1.0 (loop x h.1.0 q r) h.1.1.1 g in
      loop-sound x h.1.0 q r t c d (nest (assign x (lit c) q))
      (λ u hu. sound-nest (assign x (lit c) q) u (sound-assign x c q t.0.0 (passes-less d c m) (t.0.2, t.1.1)) hu) m
  expand-sound (in_body x c d q s r) b a g h m =
      let t = rest-sound b a h.1.1 (loop x h.1.0 q r) h.1.2 g in
      let i = expand-sound s q (body_at h.1.1) (t.0.2, t.1.1) h.1.3 m.1 in
      loop-sound x h.1.0 q r t c d (nest (expand s)) (λ u hu. sound-nest (expand s) u i hu) m.0

  -- a state of a sound program that passes, with such a store, stands for a sound configuration
  pub counting-sound : (P : Block) (a : ℕ) (c : Counting) → SoundBlock P → StateOf P a c.state → SmallState ok c.state → length c.store ≡ k → SmallValues ok c.store
      → SoundConfig ok k (expand_config c)
  counting-sound P a c g h m l v =
      let t = expand-sound c.state P a g h m in
      unfold expand_config in (record { variables = record { block = t.0; size = l }; literals = t.1; values = v })

  -- A STEP KEEPS THE VALUES PASSING

  -- The values that it holds pass, and so do the store's.
  abbrev pub SmallCounting : Counting → Type 0
  SmallCounting c = SmallState ok c.state × SmallValues ok c.store

  -- What a step comes to, finished too.
  abbrev SmallAnswer : Answer Counting → Type 0
  SmallAnswer (finished μ) = SmallValues ok μ
  SmallAnswer over = Unit {0}
  SmallAnswer (next c) = SmallCounting c

  small-in : (held : State → State) (gone : State) → ((s : State) → SmallState ok s → SmallState ok (held s)) → SmallState ok gone
      → (o : Answer Counting) → SmallAnswer o → SmallAnswer (step_in held gone o)
  unfolding step_in
  small-in held gone h g (finished μ) m = (g, m)
  small-in held gone h g over m = tt
  small-in held gone h g (next c) m = (h c.state m.0, m.1)

  small-sum : (x : ℕ) (e : Expr) (r : Block) (μ : List ℕ) → SmallExpr ok e → SmallValues ok μ → SmallAnswer (step_sum ok x e r μ)
  unfolding step_sum
  small-sum x (lit n) r μ he hs = (tt, small-update ok limit μ x n hs he)
  small-sum x (var y) r μ he hs = (tt, small-update ok limit μ x (lookup μ y) hs (small-lookup ok limit μ y hs))
  small-sum x (inc y) r μ he hs = test (ok (suc (lookup μ y))) refl
    where
      test : (t : Bool) → ok (suc (lookup μ y)) ≡ t → SmallAnswer (cond t (next (record { state = summed x (inc y) (suc (lookup μ y)) r; store = μ })) over)
      test true e = (e, hs)
      test false e = tt
  small-sum x (dec y) r μ he hs = (minus_one-passes ok limit (lookup μ y) (small-lookup ok limit μ y hs), hs)

  small-enter : (x n : ℕ) (q r : Block) → ok n ≡ true → SmallState ok (enter_loop x n q r)
  unfolding enter_loop
  small-enter x zero q r h = h
  small-enter x (suc n) q r h = subst (λ (m : ℕ). ok m ≡ true) {x = suc n} {y = n + 1} (omega arith) h

  small-done : (x c d : ℕ) (q r : Block) → ok (c + d) ≡ true → SmallState ok (turn_done x c d q r)
  unfolding turn_done
  small-done x c zero q r h = tt
  small-done x c (suc d) q r h = subst (λ (m : ℕ). ok m ≡ true) {x = c + suc d} {y = suc c + d} (omega arith) h

  small-here : (r : Block) (μ : List ℕ) → SmallBlock ok r → SmallValues ok μ → SmallAnswer (step_here ok r μ)
  unfolding step_here
  small-here empty μ g v = v
  small-here (assign x e r) μ g v = small-sum x e r μ g.0 v
  small-here (loop x n q r) μ g v = (small-enter x (bound_value μ n) q r (small-bound ok limit μ n g.0 v), v)
  small-here (nest q r) μ g v = small-in (λ s. in_block q s r) (here r) (λ s m. m) tt (step_here ok q μ) (small-here q μ g.0 v)

  small-state : (s : State) (b : Block) (a : ℕ) (μ : List ℕ) → SoundBlock b → StateOf b a s → SmallState ok s → SmallValues ok μ → SmallAnswer (step_state ok s μ)
  unfolding step_state
  small-state (here r) b a μ g h m v = small-here r μ (rest-sound b a h.0 r h.1 g).1 v
  small-state (summed x e n r) b a μ g h m v = (tt, small-update ok limit μ x n v m)
  small-state (in_block q s r) b a μ g h m v =
      let t = rest-sound b a h.0 (nest q r) h.1 g in
      small-in (λ u. in_block q u r) (here r) (λ u i. i) tt (step_state ok s μ) (small-state s q (inside_at h.0) μ (t.0.0, t.1.0) h.2 m v)
  small-state (unrolling x zero d q r) b a μ g h m v = (subst (λ (n : ℕ). ok n ≡ true) (zero-add d) m, v)
  small-state (unrolling x (suc c) d q r) b a μ g h m v = (subst (λ (n : ℕ). ok n ≡ true) {x = suc c + d} {y = c + suc d} (omega arith) m, v)
  small-state (at_zero x d q r) b a μ g h m v = (small-done x 0 d q r (subst (λ (n : ℕ). ok n ≡ true) (sym (zero-add d)) m), v)
  small-state (storing x c d q r) b a μ g h m v = ((m, tt), small-update ok limit μ x c v (passes-less d c m))
  small-state (in_body x c d q s r) b a μ g h m v =
      let t = rest-sound b a h.1.1 (loop x h.1.0 q r) h.1.2 g in
      small-in (λ u. in_body x c d q u r) (turn_done x c d q r) (λ u i. (m.0, i)) (small-done x c d q r m.0) (step_state ok s μ)
      (small-state s q (body_at h.1.1) μ (t.0.2, t.1.1) h.1.3 m.1 v)

  small-next : (o : Answer Counting) → SmallAnswer o → OnNext SmallCounting o
  small-next (finished μ) h = tt
  small-next over h = tt
  small-next (next c) h = h

  pub small-step : (P : Block) (a : ℕ) (c : Counting) → SoundBlock P → StateOf P a c.state → SmallCounting c → OnNext SmallCounting (count_step ok c)
  unfolding count_step
  small-step P a c g h m = small-next (step_state ok c.state c.store) (small-state c.state P a c.store g h m.0 m.1)
