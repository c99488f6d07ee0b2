-- WHAT THE CODE OF EACH WAY ASKS AND ANSWERS, by the bytes and words that it reads.
use Prim.Native.Nat.{◌*◌, ◌+◌, ◌-◌, ◌<◌, ◌≤◌, ◌^◌, suc, zero, ℕ}
use mathlib.Core.Path.{ap, ap₂, refl, subst, sym, ◌∙◌, ◌≡◌}
use mathlib.Core.Bool.{false, true}
use mathlib.Core.List.{List}
use lib.ListN.{get_or, length, set}
use native.Mathlib.Omega.{arith}
use Rattle.buffer.specs.LittleEndian.{val}
use Rattle.buffer.specs.Slice.{part}
use Rattle.record.specs.Kind.{kind_named}
use Rattle.record.specs.declared.kind.Kind.{Kind}
use Rattle.record.specs.declared.kind.Kind.TheVariants.{Literal, MinusOne, PlusOne, Variable}
use Rattle.record.proofs.KindLaws.{dec-leaf, inc-leaf, lit-leaf, named-number, var-leaf}
use Rattle.record.specs.Program.{block_size, expr_kind, expr_number}
use Rattle.rules.specs.Scope.{Within}
use Rattle.rules.specs.Step.{bound_value}
use Rattle.rules.specs.Store.{lookup, minus_one, up_to, update}
use Rattle.rules.specs.Syntax.{Block, Bound, Expr, assign, dec, inc, lit, loop, var}
use Rattle.rules.proofs.StoreLaws.{up_to-iff}
use Rattle.command.specs.Plan.{leaf_value}
use Rattle.command.proofs.LookLaws.{assign-read, bound-leaf, bound_leaf-value, expr-leaf, loop-read}
use Rattle.counting.specs.Counting.{State, here}
use Rattle.counting.specs.Entries.{Entry, within}
use Rattle.counting.specs.Frames.{place_word}
use Rattle.state_words.specs.Entry.{entry_in_play, entry_popped, last_loop, mark_by, place_in, place_put, pushed}
use Rattle.count_step.specs.Inner.{Inner, Shut}
use Rattle.count_step.specs.Makes.{IsAssign, IsEnd, IsLoop, IsShut, IsSummed, Makes, MakesAs, StandsOn, is_assign, is_end, is_loop, is_shut, is_summed}
use Rattle.state_words.specs.Numbers.{kind_at, number_at, variable_at}
use Rattle.count_step.specs.Words.{again_words, body_words, first_words, next_words, unrolled_words}
use Rattle.count_step.proofs.AroundLaws.{here-read, last_end, loop-record, shut-read, sum-read}
use Rattle.count_step.proofs.EndLaws.{EndRead, end_read, end-some, not_none, way_next, way-pop}
use Rattle.count_step.proofs.InnerLaws.{inner-at, inner-scope}
use Rattle.count_step.proofs.StandingLaws.{here-asks}
use Rattle.count_step.proofs.ShutLaws.{way-first, way-index, way-no-turn, way-unroll}
use Rattle.count_step.proofs.WayLaws.{goes-inc, loop-few, way-dec, way-enter, way-enter-0, way-inc, way-lit, way-sum, way-var}
use Rattle.count_step.proofs.WordsLaws.{again-false, again-true}

-- where the record of an entry ends, and its variable, by the place w that is read of the entry
module _ (start : ℕ) (buf words : List ℕ) (m w g : ℕ) (e : w ≡ get_or words (3 + 6 * m + 1) 0) where
  pub read-end : g ≡ val (part buf (start + w) 2) → w + g ≡ last_end start buf words m
  read-end f = ap₂ (λ (x y : ℕ). x + y) e (f ∙ ap (λ (x : ℕ). val (part buf (start + x) 2)) e)

  pub read-variable : g ≡ val (part buf (start + w + 4) 4) → g ≡ variable_at start buf (get_or words (3 + 6 * m + 1) 0)
  read-variable f = f ∙ ap (variable_at start buf) e

plus_one-leaf : (m : ℕ) (store : List ℕ) → leaf_value PlusOne m store ≡ lookup store m
unfolding leaf_value
plus_one-leaf m store = refl

-- AN ASSIGNMENT

pub record AssignAsks (start n : ℕ) (buf words store : List ℕ) (i : ℕ) : Type 0 where
  pub room : start + i + 16 ≤ length buf
  pub low : length buf ≤ 16384
  pub few : n ≤ 31
  pub variable : Within (length store) (variable_at start buf i)
  pub number : {k : Kind} {m : ℕ} → k ≡ kind_named (kind_at start buf i) → m ≡ number_at start buf i → (k ≡ Literal → ⊥) → Within (length store) m
  pub fits : {k : Kind} {m v : ℕ} → k ≡ kind_named (kind_at start buf i) → m ≡ number_at start buf i → v ≡ leaf_value k m store → k ≡ PlusOne → v + 1 < 2 ^ 32

-- what code asks to read the place
abbrev PlaceAsks : ℕ → List ℕ → Type 0
PlaceAsks n words = (n ≤ 31) × (mark_by (last_loop words n) 0 ≤ get_or words (place_word n) 0)

module _ (start n : ℕ) (buf words store : List ℕ) where
  pub assign-place : StandsOn start n IsAssign buf words store → PlaceAsks n words
  assign-place (used, P, es, j, _, _, is_assign x e r, h, g) = here-asks h

  pub assign-asks : StandsOn start n IsAssign buf words store → (i : ℕ) → i ≡ place_in words n → AssignAsks start n buf words store i
  assign-asks (used, P, es, j, _, _, is_assign x e r, h, g) i f =
      subst (AssignAsks start n buf words store) {x = j} {y = i} (sym (here-read h).place ∙ sym f) asks
    where
      asks : AssignAsks start n buf words store j
      asks =
          let v = assign-read (inner-at h) in
          let p = here-read h in
          let w = inner-scope h in
          record {
            room = omega (arith, v.room);
            low = h.holds.low;
            few = omega (arith, p.count, p.few);
            variable = (omega (arith, w.0.0, v.variable), omega (arith, w.0.1, v.variable));
            number = λ ek em. expr-leaf e (ek ∙ ap kind_named v.kind) (em ∙ v.number) w.1;
            fits = λ {k} {m} ek em ev is.
                let q : expr_kind e ≡ 18 = sym v.kind ∙ named-number (sym is ∙ ek) in
                let l = (up_to-iff g.0 (suc (lookup store (expr_number e)))).0 (goes-inc h store words store (up_to g.0) q g.2 g.3) in
                let value = ev ∙ ap (λ (z : Kind). leaf_value z m store) is ∙ plus_one-leaf m store ∙ ap (lookup store) (em ∙ v.number) in
                omega (arith, g.1, value);
          }

  module _ (i : ℕ) (f : i ≡ place_in words n) (ws after : List ℕ) where
    -- The step is made.
    abbrev Made : Type 0
    Made = MakesAs start n IsAssign buf words store ws after n

    -- by the expression's leaf that code read, its kind k and its number m, and the value v that it names
    module _ {k : Kind} {m v : ℕ} (ek : k ≡ kind_named (kind_at start buf i)) (em : m ≡ number_at start buf i) (ev : v ≡ leaf_value k m store) where
      pub assign-bind : (k ≡ PlusOne → ⊥) → (k ≡ MinusOne → ⊥) → ws ≡ place_put words n (i + 16) → after ≡ update store (variable_at start buf i) v → Made
      unfolding leaf_value
      assign-bind no-inc no-dec w a used P es j _ _ (is_assign x e r) h = by-expr e h
        where
          s : {e : Expr} → Inner start used n P es j (assign x e r) (here (assign x e r)) buf words (length store) → i ≡ j
          s h = f ∙ (here-read h).place

          by-expr : (e : Expr) → Inner start used n P es j (assign x e r) (here (assign x e r)) buf words (length store) → Makes P (within es (here (assign x e r))) store ws after n
          by-expr (lit y) h =
              let u = assign-read (inner-at h) in
              let kind : k ≡ Literal = ek ∙ ap (λ (z : ℕ). kind_named (kind_at start buf z)) (s h) ∙ ap kind_named u.kind ∙ (lit-leaf y).0 in
              let value : v ≡ expr_number (lit y) = ev ∙ ap (λ (z : Kind). leaf_value z m store) kind ∙ em ∙ ap (number_at start buf) (s h) ∙ u.number in
              way-lit h store ws after (named-number (sym (lit-leaf y).0)) (w ∙ ap (λ (z : ℕ). place_put words n (z + 16)) (s h)) (a ∙ ap₂ (update store) (ap (variable_at start buf) (s h) ∙ u.variable) value)
          by-expr (var y) h =
              let u = assign-read (inner-at h) in
              let kind : k ≡ Variable = ek ∙ ap (λ (z : ℕ). kind_named (kind_at start buf z)) (s h) ∙ ap kind_named u.kind ∙ (var-leaf y).0 in
              let value : v ≡ lookup store (expr_number (var y)) = ev ∙ ap (λ (z : Kind). leaf_value z m store) kind ∙ ap (lookup store) (em ∙ ap (number_at start buf) (s h) ∙ u.number) in
              way-var h store ws after (named-number (sym (var-leaf y).0)) (w ∙ ap (λ (z : ℕ). place_put words n (z + 16)) (s h)) (a ∙ ap₂ (update store) (ap (variable_at start buf) (s h) ∙ u.variable) value)
          by-expr (inc y) h =
              absurd (no-inc (ek ∙ ap (λ (z : ℕ). kind_named (kind_at start buf z)) (s h) ∙ ap kind_named (assign-read (inner-at h)).kind ∙ (inc-leaf y).0))
          by-expr (dec y) h =
              absurd (no-dec (ek ∙ ap (λ (z : ℕ). kind_named (kind_at start buf z)) (s h) ∙ ap kind_named (assign-read (inner-at h)).kind ∙ (dec-leaf y).0))

      pub assign-dec : k ≡ MinusOne → (d : ℕ) → d ≡ minus_one v → ws ≡ set (set words 1 1) 2 d → after ≡ store → Made
      unfolding leaf_value
      assign-dec is d ed w a used P es j _ _ (is_assign x e r) h =
          let s : i ≡ j = f ∙ (here-read h).place in
          let u = assign-read (inner-at h) in
          let value : v ≡ lookup store (expr_number e) = ev ∙ ap (λ (z : Kind). leaf_value z m store) is ∙ ap (lookup store) (em ∙ ap (number_at start buf) s ∙ u.number) in
          way-dec h store ws after (sym u.kind ∙ ap (kind_at start buf) (sym s) ∙ named-number (sym is ∙ ek)) (w ∙ ap (λ (z : ℕ). set (set words 1 1) 2 z) (ed ∙ ap minus_one value)) a

      pub assign-inc : k ≡ PlusOne → ws ≡ set (set words 1 1) 2 (v + 1) → after ≡ store → Made
      unfolding leaf_value
      assign-inc is w a used P es j _ _ (is_assign x e r) h =
          let s : i ≡ j = f ∙ (here-read h).place in
          let u = assign-read (inner-at h) in
          let value : v ≡ lookup store (expr_number e) = ev ∙ ap (λ (z : Kind). leaf_value z m store) is ∙ ap (lookup store) (em ∙ ap (number_at start buf) s ∙ u.number) in
          way-inc h store ws after (sym u.kind ∙ ap (kind_at start buf) (sym s) ∙ named-number (sym is ∙ ek))
          (w ∙ ap (λ (z : ℕ). set (set words 1 1) 2 z) {x = v + 1} {y = suc (lookup store (expr_number e))} (omega arith)) a

-- A SUM THAT WAITS

pub record SumAsks (start n : ℕ) (buf words store : List ℕ) (i : ℕ) : Type 0 where
  pub room : start + i + 16 ≤ length buf
  pub low : length buf ≤ 16384
  pub few : n ≤ 31
  pub variable : Within (length store) (variable_at start buf i)

module _ (start n : ℕ) (buf words store : List ℕ) where
  pub sum-place : StandsOn start n IsSummed buf words store → PlaceAsks n words
  sum-place (used, P, es, j, _, _, is_summed x e v r, h, g) = let p = sum-read h in (omega (arith, p.count, p.few), p.room)

  pub sum-asks : StandsOn start n IsSummed buf words store → (i : ℕ) → i ≡ place_in words n → SumAsks start n buf words store i
  sum-asks (used, P, es, j, _, _, is_summed x e v r, h, g) i f =
      subst (SumAsks start n buf words store) {x = j} {y = i} (sym (sum-read h).place ∙ sym f) asks
    where
      asks : SumAsks start n buf words store j
      asks =
          let a = assign-read (inner-at h) in
          let p = sum-read h in
          let w = inner-scope h in
          record {
            room = omega (arith, a.room);
            low = h.holds.low;
            few = omega (arith, p.count, p.few);
            variable = (omega (arith, w.0.0, a.variable), omega (arith, w.0.1, a.variable));
          }

  pub sum-makes : (i : ℕ) → i ≡ place_in words n → (mid ws after : List ℕ) → mid ≡ set (set words 1 0) 2 0 → ws ≡ place_put mid n (i + 16)
      → after ≡ update store (variable_at start buf i) (get_or words 2 0) → MakesAs start n IsSummed buf words store ws after n
  sum-makes i f mid ws after m w a used P es j _ _ (is_summed x e v r) h =
      let s : i ≡ j = f ∙ (sum-read h).place in
      let b = assign-read (inner-at h) in
      way-sum h store mid ws after m (w ∙ ap (λ (z : ℕ). place_put mid n (z + 16)) s) (a ∙ ap₂ (update store) (ap (variable_at start buf) s ∙ b.variable) (sum-read h).sum)

-- A LOOP

pub record LoopAsks (start n : ℕ) (buf words store : List ℕ) (i : ℕ) : Type 0 where
  pub room : start + i + 20 ≤ length buf
  pub low : length buf ≤ 16384
  pub few : n < 31
  pub number : {k : Kind} {m : ℕ} → k ≡ kind_named (kind_at start buf i) → m ≡ number_at start buf i → (k ≡ Literal → ⊥) → Within (length store) m

module _ (start n : ℕ) (buf words store : List ℕ) where
  pub loop-place : StandsOn start n IsLoop buf words store → PlaceAsks n words
  loop-place (used, P, es, j, _, _, is_loop x m q r, h, g) = here-asks h

  pub loop-asks : StandsOn start n IsLoop buf words store → (i : ℕ) → i ≡ place_in words n → LoopAsks start n buf words store i
  loop-asks (used, P, es, j, _, _, is_loop x m q r, h, g) i f =
      subst (LoopAsks start n buf words store) {x = j} {y = i} (sym (here-read h).place ∙ sym f) asks
    where
      asks : LoopAsks start n buf words store j
      asks =
          let a = loop-read (inner-at h) in
          record {
            room = omega (arith, a.room);
            low = h.holds.low;
            few = loop-few h;
            number = λ ek en. bound-leaf m (ek ∙ ap kind_named a.kind) (en ∙ a.number) (inner-scope h).1;
          }

  pub loop-makes : (i : ℕ) → i ≡ place_in words n → {k : Kind} {m v : ℕ} → k ≡ kind_named (kind_at start buf i) → m ≡ number_at start buf i → v ≡ leaf_value k m store
      → (ws : List ℕ) → ws ≡ pushed words n (entry_in_play i v) → MakesAs start n IsLoop buf words store ws store (n + 1)
  unfolding entry_in_play
  loop-makes i f {v = v} ek em ev ws w used P es j _ _ (is_loop x m q r) h =
      let s : i ≡ j = f ∙ (here-read h).place in
      let a = loop-read (inner-at h) in
      by-turns v (sym (ev ∙ bound_leaf-value store m (ek ∙ ap kind_named (ap (kind_at start buf) s ∙ a.kind)) (em ∙ ap (number_at start buf) s ∙ a.number))) (w ∙ ap (λ (u : ℕ). pushed words n (entry_in_play u v)) s)
    where
      by-turns : (v : ℕ) → bound_value store m ≡ v → ws ≡ pushed words n (entry_in_play j v) → Makes P (within es (here (loop x m q r))) store ws store (n + 1)
      by-turns zero e w = way-enter-0 h store ws store e w refl
      by-turns (suc v) e w = way-enter h store ws store v e w refl

-- THE END OF A BLOCK

module _ (start n : ℕ) (buf words : List ℕ) where
  pub end-asks : (store : List ℕ) → StandsOn start n IsEnd buf words store → (1 ≤ n) × EndRead start buf words (n - 1)
  end-asks store (used, P, es, j, _, _, is_end, h, g) =
      let some = not_none h store (up_to g.0) g.2 g.3 in
      let l = end-some h store some in
      (l, end_read h store some (n - 1) (omega arith))

  module _ (ws : List ℕ) (l : 1 ≤ n) where
    pub end-next : again_words words (n - 1) ≡ true → ws ≡ next_words words (n - 1) → (store : List ℕ) → MakesAs start n IsEnd buf words store ws store n
    end-next t w store used P es j _ _ is_end h = λ ok d g.
        let a = again-true words (n - 1) t in
        way_next h store ws store (not_none h store ok d g) (n - 1) (omega arith) a.0 a.1 w refl ok d g

    pub end-pop : (p : ℕ) → again_words words (n - 1) ≡ false → p ≡ last_end start buf words (n - 1) → ws ≡ entry_popped words (n - 1) p → (store : List ℕ) → MakesAs start n IsEnd buf words store ws store (n - 1)
    end-pop p t e w store used P es j _ _ is_end h = λ ok d g.
        way-pop h store ws store (not_none h store ok d g) (n - 1) (omega arith) (again-false words (n - 1) t) (w ∙ ap (entry_popped words (n - 1)) e) refl ok d g

-- A LOOP AT NO PLACE IN ITS BODY

pub record ShutAsks (start : ℕ) (buf words store : List ℕ) (m : ℕ) : Type 0 where
  pub few : m < 31
  pub room : start + get_or words (3 + 6 * m + 1) 0 + 20 ≤ length buf
  pub low : length buf ≤ 16384
  pub end : last_end start buf words m ≤ 16384
  pub variable : Within (length store) (variable_at start buf (get_or words (3 + 6 * m + 1) 0))

module _ (start n : ℕ) (buf words store : List ℕ) where
  pub shut-asks : StandsOn start n IsShut buf words store → (1 ≤ n) × ShutAsks start buf words store (n - 1)
  shut-asks (used, P, es, i, _, _, is_shut x y q r t u, h, g) =
      let s = shut-read u h in
      let e : length es ≡ n - 1 = omega (arith, s.count) in
      (omega (arith, s.count), subst (ShutAsks start buf words store) e asks)
    where
      asks : ShutAsks start buf words store (length es)
      asks =
          let s = shut-read u h in
          let a = loop-read (inner-at h) in
          let o = loop-record x y q r (inner-at h) in
          let w = inner-scope h in
          let v : variable_at start buf (get_or words (3 + 6 * length es + 1) 0) ≡ x = ap (variable_at start buf) s.at ∙ a.variable in
          let z : val (part buf (start + get_or words (3 + 6 * length es + 1) 0) 2) ≡ 20 + block_size q = ap (λ (d : ℕ). val (part buf (start + d) 2)) s.at ∙ o.stored in
          record {
            few = s.few;
            room = omega (arith, a.room, s.at);
            low = h.holds.low;
            end = omega (arith, o.room, s.at, h.holds.low);
            variable = (omega (arith, w.0.0), omega (arith, w.0.1));
          }

  module _ (ws after : List ℕ) where
    -- m are open afterwards.
    abbrev Left : ℕ → Type 0
    Left m = MakesAs start n IsShut buf words store ws after m

    -- the number of the entries around is n - 1
    same-n : {used : ℕ} {P : Block} {es : List Entry} {i x : ℕ} {y : Bound} {q r : Block} {t : State} → Shut x q r t → Inner start used n P es i (loop x y q r) t buf words (length store) → n - 1 ≡ length es
    same-n u h = omega (arith, (shut-read u h).count)

    pub shut-unroll : get_or words (3 + 6 * (n - 1) + 4) 0 ≡ 0 → ws ≡ unrolled_words words (n - 1) → after ≡ store → Left n
    shut-unroll z w a used P es i _ _ (is_shut x y q r t u) h =
        let e = same-n u h in
        way-unroll u h store ws after (ap (λ (m : ℕ). get_or words (3 + 6 * m + 4) 0) (sym e) ∙ z) (w ∙ ap (unrolled_words words) e) a

    -- it runs
    module _ (f : get_or words (3 + 6 * (n - 1) + 4) 0 ≡ 0 → ⊥) where
      pub shut-pop : (p : ℕ) → get_or words (3 + 6 * (n - 1) + 5) 0 ≡ 0 → get_or words (3 + 6 * (n - 1) + 2) 0 ≡ 0 → p ≡ last_end start buf words (n - 1) → ws ≡ entry_popped words (n - 1) p → after ≡ store → Left (n - 1)
      shut-pop p z g b w a used P es i _ _ (is_shut x y q r t u) h =
          let e = same-n u h in
          let s = shut-read u h in
          let o = loop-record x y q r (inner-at h) in
          let v : val (part buf (start + get_or words (3 + 6 * length es + 1) 0) 2) ≡ 20 + block_size q = ap (λ (d : ℕ). val (part buf (start + d) 2)) s.at ∙ o.stored in
          let j : p ≡ i + (20 + block_size q) = b ∙ ap (last_end start buf words) e ∙ (omega (arith, s.at)) in
          λ ok c k.
          let d = way-no-turn u h store ws after (λ d. f (ap (λ (m : ℕ). get_or words (3 + 6 * m + 4) 0) e ∙ d)) (ap (λ (m : ℕ). get_or words (3 + 6 * m + 5) 0) (sym e) ∙ z)
          (ap (λ (m : ℕ). get_or words (3 + 6 * m + 2) 0) (sym e) ∙ g) (w ∙ ap₂ (entry_popped words) e j) a ok c k in
          (d.0, d.1, e ∙ d.2)

      pub shut-first : get_or words (3 + 6 * (n - 1) + 5) 0 ≡ 0 → (get_or words (3 + 6 * (n - 1) + 2) 0 ≡ 0 → ⊥) → ws ≡ first_words words (n - 1) → after ≡ store → Left n
      shut-first z g w a used P es i _ _ (is_shut x y q r t u) h =
          let e = same-n u h in
          way-first u h store ws after (λ d. f (ap (λ (m : ℕ). get_or words (3 + 6 * m + 4) 0) e ∙ d)) (ap (λ (m : ℕ). get_or words (3 + 6 * m + 5) 0) (sym e) ∙ z)
          (λ d. g (ap (λ (m : ℕ). get_or words (3 + 6 * m + 2) 0) e ∙ d)) (w ∙ ap (first_words words) e) a

      pub shut-index : (p v : ℕ) → (get_or words (3 + 6 * (n - 1) + 5) 0 ≡ 0 → ⊥) → p ≡ get_or words (3 + 6 * (n - 1) + 1) 0 + 20 → ws ≡ body_words words (n - 1) p
          → v ≡ variable_at start buf (get_or words (3 + 6 * (n - 1) + 1) 0) → after ≡ update store v (get_or words (3 + 6 * (n - 1) + 3) 0) → Left n
      shut-index p v g b w o a used P es i _ _ (is_shut x y q r t u) h =
          let e = same-n u h in
          let s = shut-read u h in
          let d = loop-read (inner-at h) in
          let j : p ≡ i + 20 = b ∙ ap (λ (m : ℕ). get_or words (3 + 6 * m + 1) 0 + 20) e ∙ (omega (arith, s.at)) in
          let z : v ≡ x = o ∙ ap (λ (m : ℕ). variable_at start buf (get_or words (3 + 6 * m + 1) 0)) e ∙ ap (variable_at start buf) s.at ∙ d.variable in
          way-index u h store ws after (λ d. f (ap (λ (m : ℕ). get_or words (3 + 6 * m + 4) 0) e ∙ d)) (λ d. g (ap (λ (m : ℕ). get_or words (3 + 6 * m + 5) 0) e ∙ d))
          (w ∙ ap₂ (body_words words) e j) (a ∙ ap₂ (λ (c m : ℕ). update store c (get_or words (3 + 6 * m + 3) 0)) z e)
