-- Laws of the look: what a state's step comes to, by what is read.
use Prim.Native.Nat.{◌*◌, ◌+◌, ◌<◌, ◌≤◌, suc, zero, ℕ}
use mathlib.Core.Path.{ap, ap₂, refl, subst, sym, ◌∙◌, ◌≡◌}
use mathlib.Core.Bool.{Bool, cond, false, not, true}
use mathlib.Core.List.{◌++◌, List, [], ◌∷◌}
use borrow.Author.Tests.{leb-false, leb-true}
use lib.Dec.{leb}
use lib.ListN.{get_or, length}
use native.Mathlib.Omega.{arith}
use Rattle.buffer.specs.LittleEndian.{val}
use Rattle.buffer.specs.Slice.{part}
use Rattle.record.specs.Program.{block_size, expr_kind, expr_number}
use Rattle.rules.specs.Run.{Outcome, is_finished, is_over, outcome_of, spent}
use Rattle.rules.specs.Scope.{BlockWithin, Within}
use Rattle.rules.specs.Store.{lookup, up_to, update}
use Rattle.rules.specs.Syntax.{Answer, Block, Expr, assign, dec, empty, finished, inc, lit, loop, nest, next, over, var}
use Rattle.rules.proofs.StoreLaws.{up_to-above, up_to-iff}
use Rattle.rules.proofs.Tests.{true-false}
use Rattle.place.specs.Path.{Spot, blocks, path, spot, spot_assign, spot_empty, spot_loop}
use Rattle.place.specs.ProgramView.{BlockAt}
use Rattle.place.proofs.NestingLaws.{plug-keeps}
use Rattle.place.proofs.PathLaws.{plug-spot, spot-at, spot_is}
use Rattle.place.proofs.ProgramBytesLaws.{block_size-zero, inc-kind, kind-inc}
use Rattle.place.proofs.ProgramNumberLaws.{expr-variable}
use Rattle.place.proofs.ProgramViewLaws.{assign-view, block_room, loop-view, nest-view}
use Rattle.command.proofs.LookLaws as look
use Rattle.counting.specs.CountStep.{count_step, step_here, step_in, step_state, step_sum, turn_done}
use Rattle.counting.specs.Counting.{Counting, State, at_zero, here, in_block, in_body, summed, unrolling}
use Rattle.counting.specs.Entries.{Entry, close, within}
use Rattle.counting.proofs.EntriesLaws.{within-close, within-next, within-over}
use Rattle.state_words.specs.Entry.{place_in}
use Rattle.count_step.specs.Inner.{Holds, Inner, Shut, shut_at_zero, shut_storing, shut_unrolling}
use Rattle.count_step.specs.Makes.{over_expr, reads_as}
use Rattle.count_step.specs.declared.standing.Standing.{Standing}
use Rattle.count_step.specs.declared.standing.Standing.TheVariants as standing
use Rattle.count_step.specs.declared.standing.Way.{Way}
use Rattle.count_step.specs.declared.standing.Way.TheVariants.{Here}
use Rattle.count_step.specs.Standing.{IsWay, way_here, way_shut, way_sum, kind_of, over_first}
use Rattle.count_step.specs.Words.{shut_words}
use Rattle.count_step.proofs.AroundLaws.{Around, around, around_block, around_none, around_turn, here-read}
use Rattle.count_step.proofs.InnerLaws.{View, inner-at, inner-scope, view, view_here, view_shut, view_sum}
use Rattle.count_step.proofs.ShapeLaws.{is-here, here-open, not-shut, sum-open}
use Rattle.count_step.proofs.StandingLaws.{same_place}

module _ (ok : ℕ → Bool) where
  -- The state has a next one under this test.
  abbrev Next : State → List ℕ → Type 0
  Next s store = (c : Counting) × (step_state ok s store ≡ next c)

  -- THE OUTCOME, by what the step comes to

  reads-next : (s : State) (store : List ℕ) → Next s store → spent ≡ reads_as ok s store
  unfolding outcome_of
  reads-next s store g = sym (ap (outcome_of (count_step ok) (λ d. true)) g.1)

  reads_over : (s : State) (store : List ℕ) → step_state ok s store ≡ over → is_over ≡ reads_as ok s store
  unfolding outcome_of
  reads_over s store e = sym (ap (outcome_of (count_step ok) (λ d. true)) e)

  reads-finished : (s : State) (store : List ℕ) → step_state ok s store ≡ finished store → is_finished ≡ reads_as ok s store
  unfolding outcome_of
  reads-finished s store e = sym (ap (outcome_of (count_step ok) (λ d. true)) e)

  -- a step of what stands innermost is one of the whole
  next-within : (es : List Entry) (t : State) (store : List ℕ) → Next t store → Next (within es t) store
  next-within es t store g = (record { state = within es g.0.state; store = g.0.store }, within-next ok store es t g.0.state g.0.store g.1)

  -- A LOOP AT NO PLACE, and a sum that waits

  turn-next : (x c d : ℕ) (p r : Block) (store : List ℕ) → Next (unrolling x c d p r) store
  unfolding step_state
  turn-next x zero d p r store = (record { state = at_zero x d p r; store = store }, refl)
  turn-next x (suc c) d p r store = (record { state = unrolling x c (suc d) p r; store = store }, refl)

  shut-next : {x : ℕ} {q r : Block} {t : State} → Shut x q r t → (store : List ℕ) → Next t store
  unfolding step_state
  shut-next {x} {q} {r} (shut_unrolling c d) store = turn-next x c d q r store
  shut-next {x} {q} {r} (shut_at_zero d) store = (record { state = turn_done x 0 d q r; store = store }, refl)
  shut-next {x} {q} {r} (shut_storing c d l) store = (record { state = in_body x c d q (here q) r; store = update store x c }, refl)

  stored_next : (x : ℕ) (e : Expr) (v : ℕ) (r : Block) (store : List ℕ) → Next (summed x e v r) store
  unfolding step_state
  stored_next x e v r store = (record { state = here r; store = update store x v }, refl)

  -- A BLOCK IN WHICH NOTHING IS OPEN

  abbrev HereNext : Block → List ℕ → Type 0
  HereNext b μ = (c : Counting) × (step_here ok b μ ≡ next c)

  sum-next : (x : ℕ) (e : Expr) (r : Block) (μ : List ℕ) → over_expr ok e μ ≡ false → (c : Counting) × (step_sum ok x e r μ ≡ next c)
  unfolding step_sum over_expr
  sum-next x (lit n) r μ h = (record { state = here r; store = update μ x n }, refl)
  sum-next x (var y) r μ h = (record { state = here r; store = update μ x (lookup μ y) }, refl)
  sum-next x (inc y) r μ h = by_fits (ok (suc (lookup μ y))) (record { state = summed x (inc y) (suc (lookup μ y)) r; store = μ }) h
    where
      by_fits : (b : Bool) (d : Counting) → not b ≡ false → (c : Counting) × (cond {A = Answer Counting} b (next d) over ≡ next c)
      by_fits true d h = (d, refl)
      by_fits false d h = absurd (true-false h)
  sum-next x (dec y) r μ h = (_, refl)

  sum_over : (x : ℕ) (e : Expr) (r : Block) (μ : List ℕ) → over_expr ok e μ ≡ true → step_sum ok x e r μ ≡ over
  unfolding step_sum over_expr
  sum_over x (lit n) r μ h = absurd (true-false (sym h))
  sum_over x (var y) r μ h = absurd (true-false (sym h))
  sum_over x (inc y) r μ h = by_fits (ok (suc (lookup μ y))) (next (record { state = summed x (inc y) (suc (lookup μ y)) r; store = μ })) h
    where
      by_fits : (b : Bool) (d : Answer Counting) → not b ≡ true → cond {A = Answer Counting} b d over ≡ over
      by_fits true d h = absurd (true-false (sym h))
      by_fits false d h = refl
  sum_over x (dec y) r μ h = absurd (true-false (sym h))

  nest-next : (q r : Block) (μ : List ℕ) → HereNext q μ → HereNext (nest q r) μ
  unfolding step_here step_in
  nest-next q r μ g = (record { state = in_block q g.0.state r; store = g.0.store }, ap (step_in (λ s. in_block q s r) (here r)) g.1)

  nest-over : (q r : Block) (μ : List ℕ) → step_here ok q μ ≡ over → step_here ok (nest q r) μ ≡ over
  unfolding step_here step_in
  nest-over q r μ g = ap (step_in (λ s. in_block q s r) (here r)) g

  spot-next : (b : Block) (μ : List ℕ) → (b ≡ empty → ⊥) → over_first ok (spot b) μ ≡ false → HereNext b μ
  unfolding spot over_first step_here step_in
  spot-next empty μ n h = absurd (n refl)
  spot-next (assign x e r) μ n h = sum-next x e r μ h
  spot-next (loop x m q r) μ n h = (_, refl)
  spot-next (nest empty r) μ n h = (record { state = here r; store = μ }, refl)
  spot-next (nest (assign x e q) r) μ n h = nest-next (assign x e q) r μ (sum-next x e q μ h)
  spot-next (nest (loop x m b q) r) μ n h = nest-next (loop x m b q) r μ (_, refl)
  spot-next (nest (nest b q) r) μ n h = nest-next (nest b q) r μ (spot-next (nest b q) μ (λ z. let y : ◌≡◌ {A = ℕ} 0 1 = cc in omega arith) h)

  spot-over : (b : Block) (μ : List ℕ) → over_first ok (spot b) μ ≡ true → step_here ok b μ ≡ over
  unfolding spot over_first step_here step_in
  spot-over empty μ h = absurd (true-false (sym h))
  spot-over (assign x e r) μ h = sum_over x e r μ h
  spot-over (loop x m q r) μ h = absurd (true-false (sym h))
  spot-over (nest empty r) μ h = absurd (true-false (sym h))
  spot-over (nest (assign x e q) r) μ h = nest-over (assign x e q) r μ (sum_over x e q μ h)
  spot-over (nest (loop x m b q) r) μ h = absurd (true-false (sym h))
  spot-over (nest (nest b q) r) μ h = nest-over (nest b q) r μ (spot-over (nest b q) μ h)

  -- THE LOOK, each way out

  module _ {start used n : ℕ} {P : Block} {s : State} {buf words : List ℕ} (store : List ℕ) (h : Holds start used n P s buf words (length store)) where
    pub look-shut : shut_words words n ≡ true → spent ≡ reads_as ok s store
    look-shut t = by-view (view h)
      where
        by-view : View start used n P s buf words (length store) → spent ≡ reads_as ok s store
        by-view (view_here es i r e a) = absurd (true-false (sym t ∙ here-open a))
        by-view (view_sum es i x y v r e q a) = absurd (true-false (sym t ∙ sum-open a))
        by-view (view_shut es i x m q r u e o a) =
            subst (λ (z : State). spent ≡ reads_as ok z store) (sym e) (reads-next (within es u) store (next-within es u store (shut-next o store)))

    pub look-sum : shut_words words n ≡ false → get_or words 1 0 ≡ 1 → spent ≡ reads_as ok s store
    look-sum t w = by-view (view h)
      where
        by-view : View start used n P s buf words (length store) → spent ≡ reads_as ok s store
        by-view (view_here es i r e a) = absurd (omega (arith, (here-read a).waits, w))
        by-view (view_sum es i x y v r e q a) =
            subst (λ (z : State). spent ≡ reads_as ok z store) (sym e)
            (reads-next (within es (summed x y v r)) store (next-within es (summed x y v r) store (stored_next x y v r store)))
        by-view (view_shut es i x m q r u e o a) = absurd (not-shut o a t)

    -- at no place
    pub look-away : {p : Way} → IsWay start used n buf words p → ((k : Standing) → p ≡ Here k → ⊥) → spent ≡ reads_as ok s store
    look-away (way_shut t e) z = look-shut t
    look-away (way_sum t w e) z = look-sum t w
    look-away (way_here t w f) z = let v = is-here h t w in absurd (z (kind_of v.2) (f P v.0 v.1 v.2 (length store) v.4))

  -- the ways out where nothing is open at the place, which is what the state s is
  module _ {start used n : ℕ} {P : Block} {es : List Entry} {i : ℕ} {r : Block} {buf words : List ℕ} {count : ℕ} (h : Inner start used n P es i r (here r) buf words count) (store : List ℕ) (s : State) (is : s ≡ within es (here r)) where
    reads-is : (o : Outcome) → o ≡ reads_as ok (within es (here r)) store → o ≡ reads_as ok s store
    reads-is o e = subst (λ (z : State). o ≡ reads_as ok z store) (sym is) e

    kind-empty : (b : Block) → kind_of b ≡ standing.End → b ≡ empty
    unfolding kind_of
    kind-empty empty e = refl
    kind-empty (assign x y b) e = absurd (cc)
    kind-empty (loop x m q b) e = absurd (cc)
    kind-empty (nest q b) e = absurd (cc)

    finishes : (ds : List Entry) (b : Block) → ds ≡ [] → b ≡ empty → step_state ok (within ds (here b)) store ≡ finished store
    unfolding within step_state step_here
    finishes ds b e f = ap₂ (λ (x : List Entry) (y : Block). step_state ok (within x (here y)) store) e f

    closes : (ds fs : List Entry) (b : Block) (e : Entry) → ds ≡ fs ++ (e ∷ []) → b ≡ empty → Next (within ds (here b)) store
    closes ds fs b e f g =
        (record { state = within fs (close e); store = store }, ap₂ (λ (x : List Entry) (y : Block). step_state ok (within x (here y)) store) f g ∙ within-close ok store fs e)

    pub look-finished : kind_of r ≡ standing.End → n ≡ 0 → is_finished ≡ reads_as ok s store
    look-finished z f = by-around (around h)
      where
        by-around : Around h → is_finished ≡ reads_as ok s store
        by-around (around_none e) = reads-is is_finished (reads-finished (within es (here r)) store (finishes es r e (kind-empty r z)))
        by-around (around_block fs p q o e y a b c d) = absurd (omega (arith, y.count, f))
        by-around (around_turn fs p x c d m q o e y a b g u) = absurd (omega (arith, y.count, f))

    pub look-closes : kind_of r ≡ standing.End → (n ≡ 0 → ⊥) → spent ≡ reads_as ok s store
    look-closes z f = by-around (around h)
      where
        by-around : Around h → spent ≡ reads_as ok s store
        by-around (around_none e) = absurd (f ((here-read h).count ∙ ap length e))
        by-around (around_block fs p q o e y a b c d) = reads-is spent (reads-next (within es (here r)) store (closes es fs r _ e (kind-empty r z)))
        by-around (around_turn fs p x c d m q o e y a b g u) = reads-is spent (reads-next (within es (here r)) store (closes es fs r _ e (kind-empty r z)))

    pub look-over : (b : Bool) → b ≡ over_first ok (spot r) store → b ≡ true → is_over ≡ reads_as ok s store
    unfolding step_state
    look-over b e t = reads-is is_over (reads_over (within es (here r)) store (within-over ok store es (here r) (spot-over r store (sym e ∙ t))))

    pub look-next : (r ≡ empty → ⊥) → (b : Bool) → b ≡ over_first ok (spot r) store → b ≡ false → spent ≡ reads_as ok s store
    unfolding step_state
    look-next f b e t = reads-is spent (reads-next (within es (here r)) store (next-within es (here r) store (spot-next r store f (sym e ∙ t))))

-- WHAT CODE ASKS to walk to the first command: one stands there, at q

pub kind-some : (b : Block) → (kind_of b ≡ standing.End → ⊥) → b ≡ empty → ⊥
unfolding kind_of
kind-some b n e = n (ap kind_of e)

module _ {start used n : ℕ} {P : Block} {es : List Entry} {i : ℕ} {r : Block} {buf words : List ℕ} {count : ℕ} (h : Inner start used n P es i r (here r) buf words count) (j : ℕ) (f : j ≡ place_in words n) where
  pub walk_at : BlockAt buf (start + j) r
  walk_at = subst (λ (m : ℕ). BlockAt buf (start + m) r) (sym (same_place h j f)) (inner-at h)

  pub walk-low : start + j ≤ 16384
  walk-low = omega (arith, block_room walk_at, h.holds.low)

  module _ (some : r ≡ empty → ⊥) where
    pub walk-some : 0 < block_size r
    walk-some = positive (block_size r) (λ z. some (block_size-zero r z))
      where
        positive : (m : ℕ) → (m ≡ 0 → ⊥) → 0 < m
        positive zero f = absurd (f refl)
        positive (suc m) f = omega arith

    -- the command that the rules act on, behind the heads of these levels
    pub record SpotAsks (levels : ℕ) : Type 0 where
      pub is : Spot (spot r)
      pub low : start + (j + 4 * levels) ≤ 16384
      pub at : BlockAt buf (start + (j + 4 * levels)) (spot r)
      pub scope : BlockWithin count (spot r)

    pub spot-asks : (levels : ℕ) → levels ≡ length (path r) → SpotAsks levels
    spot-asks levels e =
        let at : BlockAt buf (start + (j + 4 * levels)) (spot r) = subst (λ (m : ℕ). BlockAt buf (start + (j + 4 * m)) (spot r)) (sym e) (subst (λ (m : ℕ). BlockAt buf m (spot r)) {x = start + j + 4 * length (path r)} {y = start + (j + 4 * length (path r))} (omega arith) (spot-at walk_at)) in
        record {
          is = spot_is r walk-some;
          low = omega (arith, block_room at, h.holds.low);
          at = at;
          scope = plug-keeps blocks (BlockWithin count) (λ t r w. w.0) (path r) (spot r) (subst (BlockWithin count) (sym (plug-spot r)) (inner-scope h));
        }

-- THE TEST of what stands first

module _ (buf : List ℕ) (p : ℕ) where
  pub spot-room : (b : Block) → Spot b → BlockAt buf p b → p + 4 ≤ length buf
  unfolding assign-view loop-view nest-view
  spot-room _ (spot_assign {x} {e} {r}) h = let v = assign-view x e r h in omega (arith, v.room, v.size)
  spot-room _ (spot_loop {x} {n} {b} {r}) h = let v = loop-view x n b r h in omega (arith, v.room, v.size)
  spot-room _ (spot_empty {r}) h = let v = nest-view empty r h in omega (arith, v.room, v.size)

  module _ (ok : ℕ → Bool) (store : List ℕ) where
    pub first-other : (b : Block) → Spot b → BlockAt buf p b → (val (part buf (p + 2) 2) ≡ 2 → ⊥) → false ≡ over_first ok b store
    unfolding assign-view over_first
    first-other _ (spot_assign {x} {e} {r}) h n = absurd (n (assign-view x e r h).kind)
    first-other _ (spot_loop {x} {n} {b} {r}) h m = refl
    first-other _ (spot_empty {r}) h m = refl

  -- an assignment
  pub record FirstAssign (k : ℕ) (b : Block) : Type 0 where
    pub room : p + 16 ≤ length buf
    pub expr : Expr
    pub is : (ok : ℕ → Bool) (store : List ℕ) → over_first ok b store ≡ over_expr ok expr store
    pub kind : val (part buf (p + 10) 2) ≡ expr_kind expr
    pub number : val (part buf (p + 12) 4) ≡ expr_number expr
    pub scope : BlockWithin k b → (val (part buf (p + 10) 2) ≡ 18) → Within k (val (part buf (p + 12) 4))

  pub first-assign : (k : ℕ) (b : Block) → Spot b → BlockAt buf p b → val (part buf (p + 2) 2) ≡ 2 → FirstAssign k b
  unfolding assign-view loop-view nest-view over_first
  first-assign k _ (spot_assign {x} {e} {r}) h t =
      let v = look.assign-read h in
      record {
        room = v.room;
        expr = e;
        is = λ ok store. refl;
        kind = v.kind;
        number = v.number;
        scope = λ w z. let u = expr-variable k e (λ y. omega (arith, v.kind, y, z)) w.1 in (omega (arith, u.0, v.number), omega (arith, u.1, v.number));
      }
  first-assign k _ (spot_loop {x} {n} {b} {r}) h t = absurd (omega (arith, (loop-view x n b r h).kind, t))
  first-assign k _ (spot_empty {r}) h t = absurd (omega (arith, (nest-view empty r h).kind, t))

pub expr-other : (ok : ℕ → Bool) (e : Expr) (store : List ℕ) (n : ℕ) → n ≡ expr_kind e → (n ≡ 18 → ⊥) → false ≡ over_expr ok e store
unfolding over_expr
expr-other ok (lit m) store n e h = refl
expr-other ok (var y) store n e h = refl
expr-other ok (inc y) store n e h = absurd (h (e ∙ inc-kind y))
expr-other ok (dec y) store n e h = refl

-- plus one of a value is too large where the value is the largest
pub expr-inc : (largest : ℕ) (e : Expr) (store : List ℕ) (v : ℕ) → expr_kind e ≡ 18 → v ≡ lookup store (expr_number e) → leb largest v ≡ over_expr (up_to largest) e store
unfolding over_expr
expr-inc largest e₀ store v q f = by-test (leb largest v) refl ∙ sym (ap (λ (z : Expr). over_expr (up_to largest) z store) (kind-inc e₀ q))
  where
    by-test : (b : Bool) → leb largest v ≡ b → b ≡ not (up_to largest (suc (lookup store (expr_number e₀))))
    by-test true t = let e = leb-true largest v t in sym (ap not ((up_to-above largest (suc (lookup store (expr_number e₀)))).1 (omega arith)))
    by-test false t = let e = leb-false largest v t in sym (ap not ((up_to-iff largest (suc (lookup store (expr_number e₀)))).1 (omega arith)))
