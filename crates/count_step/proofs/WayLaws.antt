-- ONE LAW FOR EACH WAY OF A STEP: what the code leaves in the words and the store is the state after. Here the ways of an
-- assignment, of a sum that waits, and of a loop that comes into play.
use Prim.Native.Nat.{◌*◌, ◌+◌, ◌<◌, suc, ℕ}
use mathlib.Core.Path.{ap, ap₂, refl, sym, ◌∙◌, ◌≡◌}
use mathlib.Core.Bool.{Bool, cond, false, true}
use mathlib.Core.List.{List, [], ◌∷◌}
use lib.ListN.{length, set}
use native.Mathlib.Omega.{arith}
use Rattle.record.specs.Program.{expr_kind, expr_number}
use Rattle.rules.specs.Step.{bound_value}
use Rattle.rules.specs.Store.{lookup, minus_one, update}
use Rattle.rules.specs.Syntax.{Answer, Block, Bound, Expr, assign, loop, next, over}
use Rattle.place.proofs.ProgramBytesLaws.{kind-dec, kind-inc, kind-lit, kind-var}
use Rattle.counting.specs.CountStep.{enter_loop, step_here, step_state, step_sum}
use Rattle.counting.specs.Counting.{Counting, State, at_zero, here, summed, unrolling}
use Rattle.counting.specs.Depth.{open_count}
use Rattle.counting.specs.Entries.{Entry, within}
use Rattle.counting.specs.Frames.{place_mark, place_word}
use Rattle.counting.specs.Held.{Held, held_loop}
use Rattle.counting.specs.StateOf.{StateOf}
use Rattle.counting.specs.StateWords.{encode_state}
use Rattle.counting.proofs.DepthLaws.{open-31}
use Rattle.counting.proofs.EntriesLaws.{within-next, within-over}
use Rattle.counting.proofs.InnermostEdits.{Framed, pop-edit, sum-edit, words-summed}
use Rattle.counting.proofs.StepEdits as edits
use Rattle.counting.proofs.WordEdits.{no_entry, num, put_entry}
use Rattle.state_words.specs.Entry.{entry_popped, entry_pushed, place_put}
use Rattle.state_words.proofs.EntryLaws.{pop-put, push-loop}
use Rattle.count_step.specs.Inner.{Inner}
use Rattle.count_step.specs.Makes.{Makes}
use Rattle.count_step.proofs.AroundLaws.{PlaceRead, here-read, place_read, sum-read}
use Rattle.count_step.proofs.InnerLaws.{inner-other, open-within}

-- THE STEP THAT IS MADE

next-injective : (c d : Counting) → next c ≡ next d → c ≡ d
next-injective c d e = cc

-- by the state after, which may depend on there being one
pub makes-by : (P : Block) (s : State) (store words after : List ℕ) (m : ℕ) (t : State) (ν : List ℕ)
    → ((ok : ℕ → Bool) (c : Counting) → step_state ok s store ≡ next c → step_state ok s store ≡ next (record { state = t; store = ν }))
    → words ≡ encode_state P t → after ≡ ν → m ≡ open_count t → Makes P s store words after m
makes-by P s store words after m t ν e w a o = λ ok c f.
    let q : record { state = t; store = ν } ≡ c = next-injective (record { state = t; store = ν }) c (sym (e ok c f) ∙ f) in
    (w ∙ ap (λ (d : Counting). encode_state P d.state) q, a ∙ ap (λ (d : Counting). d.store) q, o ∙ ap (λ (d : Counting). open_count d.state) q)

-- HOW MANY ARE OPEN where nothing is open in the innermost, and where one is

pub open_none : (es : List Entry) (t : State) → open_count t ≡ 0 → open_count (within es t) ≡ length es
open_none es t e = open-within es t ∙ (omega arith)

pub open-one : (es : List Entry) (t : State) → open_count t ≡ 1 → open_count (within es t) ≡ suc (length es)
open-one es t e = open-within es t ∙ (omega arith)

-- ANOTHER PLACE, as `counting` writes it

pub put-moved : (n : ℕ) (es : List Entry) (i w v : ℕ) (words : List ℕ) → PlaceRead n es i w v words → (j : ℕ) → place_put words n j ≡ set words (place_word (length es)) (place_mark es j)
unfolding place_put
put-moved n es i w v words r j = ap₂ (λ (k x : ℕ). set words (place_word k) x) r.count (r.mark j)

-- and where the last entry is taken away
pub pop-moved : (P : Block) (es : List Entry) (p : ℕ) (h : Held) (words : List ℕ) → length es < 31 → words ≡ Framed P es p (num p 0 0 (h ∷ [])) → (j : ℕ)
    → entry_popped words (length es) j ≡ set (put_entry words (3 + 6 * length es) no_entry) (place_word (length es)) (place_mark es j)
pop-moved P es p h words l same j =
    let left : put_entry words (3 + 6 * length es) no_entry ≡ Framed P es p (num p 0 0 []) =
    ap (λ (z : List ℕ). put_entry z (3 + 6 * length es) no_entry) same ∙ pop-edit P 0 es p 0 0 h l in
    pop-put words (length es) j
    ∙ put-moved (length es) es p 0 0 (put_entry words (3 + 6 * length es) no_entry) (place_read P (length es) es p 0 0 (put_entry words (3 + 6 * length es) no_entry) (omega arith) refl left) j

-- AN ASSIGNMENT

module _ {start used n : ℕ} {P : Block} {es : List Entry} {i x : ℕ} {e : Expr} {r : Block} {buf words : List ℕ} {count : ℕ}
    (h : Inner start used n P es i (assign x e r) (here (assign x e r)) buf words count) (store ws after : List ℕ) where
  abbrev s : State
  s = here (assign x e r)

  stores : (v : ℕ) → ((ok : ℕ → Bool) → step_sum ok x e r store ≡ next (record { state = here r; store = update store x v }))
      → ws ≡ place_put words n (i + 16) → after ≡ update store x v → Makes P (within es s) store ws after n
  unfolding step_state step_here open_count
  stores v f w a =
      makes-by P (within es s) store ws after n (within es (here r)) (update store x v)
      (λ ok c g. within-next ok store es s (here r) (update store x v) (f ok))
      (w ∙ put-moved n es i 0 0 words (here-read h) (i + 16) ∙ ap (λ (z : List ℕ). set z (place_word (length es)) (place_mark es (i + 16))) h.holds.same ∙ edits.stored P es i x e r h.place)
      a ((here-read h).count ∙ sym (open_none es (here r) refl))

  waits-for : (v : ℕ) → ((ok : ℕ → Bool) (c : Counting) → step_state ok (within es s) store ≡ next c → step_sum ok x e r store ≡ next (record { state = summed x e v r; store = store }))
      → ws ≡ set (set words 1 1) 2 v → after ≡ store → Makes P (within es s) store ws after n
  unfolding step_state step_here open_count
  waits-for v f w a =
      makes-by P (within es s) store ws after n (within es (summed x e v r)) store
      (λ ok c g. within-next ok store es s (summed x e v r) store (f ok c g))
      (w ∙ ap (λ (z : List ℕ). set (set z 1 1) 2 v) h.holds.same ∙ edits.waits P es i x e r h.place v)
      a ((here-read h).count ∙ sym (open_none es (summed x e v r) refl))

  pub way-lit : expr_kind e ≡ 16 → ws ≡ place_put words n (i + 16) → after ≡ update store x (expr_number e) → Makes P (within es s) store ws after n
  way-lit q = stores (expr_number e) (λ ok. ap (λ (y : Expr). step_sum ok x y r store) (kind-lit e q) ∙ (unfold step_sum in refl))

  pub way-var : expr_kind e ≡ 17 → ws ≡ place_put words n (i + 16) → after ≡ update store x (lookup store (expr_number e)) → Makes P (within es s) store ws after n
  way-var q = stores (lookup store (expr_number e)) (λ ok. ap (λ (y : Expr). step_sum ok x y r store) (kind-var e q) ∙ (unfold step_sum in refl))

  pub way-dec : expr_kind e ≡ 19 → ws ≡ set (set words 1 1) 2 (minus_one (lookup store (expr_number e))) → after ≡ store → Makes P (within es s) store ws after n
  unfolding step_sum
  way-dec q =
      let v = minus_one (lookup store (expr_number e)) in
      waits-for v (λ ok c g. ap (λ (y : Expr). step_sum ok x y r store) (kind-dec e q) ∙ ap (λ (y : Expr). next (record { state = summed x y v r; store = store })) (sym (kind-dec e q)))

  -- plus one is made where its value passes, as it does where there is a next state
  module _ (ok : ℕ → Bool) (q : expr_kind e ≡ 18) where
    abbrev v : ℕ
    v = suc (lookup store (expr_number e))

    abbrev made : Bool → Answer Counting
    made b = cond b (next (record { state = summed x e v r; store = store })) over

    is-inc : step_sum ok x e r store ≡ made (ok v)
    unfolding step_sum
    is-inc =
        ap (λ (z : Expr). step_sum ok x z r store) (kind-inc e q)
        ∙ ap (λ (z : Expr). cond (ok v) (next (record { state = summed x z v r; store = store })) over) (sym (kind-inc e q))

    pub goes-inc : (c : Counting) → step_state ok (within es s) store ≡ next c → ok v ≡ true
    unfolding step_state step_here
    goes-inc c g = by-test (ok v) refl
      where
        by-test : (b : Bool) → ok v ≡ b → b ≡ true
        by-test true f = refl
        by-test false f =
            let o : step_sum ok x e r store ≡ over = is-inc ∙ ap made f in
            let w : step_state ok (within es s) store ≡ over = within-over ok store es s o in
            let z : ◌≡◌ {A = ℕ} 0 1 = cc in
            absurd (omega arith)

    inc-made : (c : Counting) → step_state ok (within es s) store ≡ next c → step_sum ok x e r store ≡ next (record { state = summed x e v r; store = store })
    inc-made c g = is-inc ∙ ap made (goes-inc c g)

  pub way-inc : expr_kind e ≡ 18 → ws ≡ set (set words 1 1) 2 (suc (lookup store (expr_number e))) → after ≡ store → Makes P (within es s) store ws after n
  way-inc q = waits-for (suc (lookup store (expr_number e))) (λ ok c g. inc-made ok q c g)

-- A SUM THAT WAITS

module _ {start used n : ℕ} {P : Block} {es : List Entry} {i x : ℕ} {e : Expr} {v : ℕ} {r : Block} {buf words : List ℕ} {count : ℕ}
    (h : Inner start used n P es i (assign x e r) (summed x e v r) buf words count) where
  -- the words with no sum
  none-waits : set (set words 1 0) 2 0 ≡ Framed P es i (num i 0 0 [])
  none-waits = ap (λ (z : List ℕ). set (set z 1 0) 2 0) (h.holds.same ∙ words-summed P es i x e v r h.place) ∙ sum-edit P 0 es i 1 v 0 0

  pub way-sum : (store mid ws after : List ℕ) → mid ≡ set (set words 1 0) 2 0 → ws ≡ place_put mid n (i + 16) → after ≡ update store x v → Makes P (within es (summed x e v r)) store ws after n
  unfolding step_state open_count
  way-sum store mid ws after m w a =
      let t = sum-read h in
      makes-by P (within es (summed x e v r)) store ws after n (within es (here r)) (update store x v)
      (λ ok c g. within-next ok store es (summed x e v r) (here r) (update store x v) refl)
      (w ∙ put-moved n es i 0 0 mid (place_read P n es i 0 0 mid t.few t.count (m ∙ none-waits)) (i + 16)
      ∙ ap (λ (z : List ℕ). set z (place_word (length es)) (place_mark es (i + 16))) (m ∙ ap (λ (z : List ℕ). set (set z 1 0) 2 0) h.holds.same)
      ∙ edits.sum-stored P es i x e r h.place v)
      a (t.count ∙ sym (open_none es (here r) refl))

-- A LOOP COMES INTO PLAY

module _ {start used n : ℕ} {P : Block} {es : List Entry} {i x : ℕ} {m : Bound} {q r : Block} {buf words : List ℕ} {count : ℕ}
    (h : Inner start used n P es i (loop x m q r) (here (loop x m q r)) buf words count) where
  abbrev l : State
  l = here (loop x m q r)

  -- there is room for its entry
  pub loop-few : n < 31
  unfolding open_count
  loop-few =
      let o : StateOf P 0 (within es (at_zero x 0 q r)) = inner-other h (at_zero x 0 q r) (m, (i, h.place)) in
      let k = open-31 P 0 (within es (at_zero x 0 q r)) o h.holds.deep in
      let c = (here-read h).count in
      omega (arith, open-within es (at_zero x 0 q r))

  few-around : length es < 31
  few-around = omega (arith, loop-few, (here-read h).count)

  module _ (store ws after : List ℕ) where
    enters : (v : ℕ) (t : State) → bound_value store m ≡ v → enter_loop x v q r ≡ t → (ok : ℕ → Bool) → step_state ok (within es l) store ≡ next (record { state = within es t; store = store })
    unfolding step_state step_here
    enters v t z e ok = within-next ok store es l t store (ap (λ (k : ℕ). next (record { state = enter_loop x k q r; store = store })) z ∙ ap (λ (u : State). next (record { state = u; store = store })) e)

    pub way-enter-0 : bound_value store m ≡ 0 → ws ≡ entry_pushed words n 2 i 0 0 1 0 → after ≡ store → Makes P (within es l) store ws after (n + 1)
    unfolding open_count
    way-enter-0 z w a =
        makes-by P (within es l) store ws after (n + 1) (within es (at_zero x 0 q r)) store
        (λ ok c g. enters 0 (at_zero x 0 q r) z (unfold enter_loop in refl) ok)
        (w ∙ ap (λ (k : ℕ). entry_pushed words k 2 i 0 0 1 0) (here-read h).count ∙ push-loop words (length es) i 0 0 0 1 (omega arith)
        ∙ ap (λ (y : List ℕ). put_entry y (3 + 6 * length es) (held_loop i 0 0 1 0)) h.holds.same ∙ edits.entered-0 P es i x m q r h.place few-around)
        a (omega (arith, (here-read h).count, open-one es (at_zero x 0 q r) refl))

    pub way-enter : (v : ℕ) → bound_value store m ≡ suc v → ws ≡ entry_pushed words n 2 i (suc v) v 0 0 → after ≡ store → Makes P (within es l) store ws after (n + 1)
    unfolding open_count
    way-enter v z w a =
        makes-by P (within es l) store ws after (n + 1) (within es (unrolling x v 1 q r)) store
        (λ ok c g. enters (suc v) (unrolling x v 1 q r) z (unfold enter_loop in refl) ok)
        (w ∙ ap (λ (k : ℕ). entry_pushed words k 2 i (suc v) v 0 0) (here-read h).count ∙ push-loop words (length es) i v 1 (suc v) 0 (omega arith)
        ∙ ap (λ (y : List ℕ). put_entry y (3 + 6 * length es) (held_loop i v 1 0 0)) h.holds.same ∙ edits.entered-suc P es i x m q r h.place v few-around)
        a (omega (arith, (here-read h).count, open-one es (unrolling x v 1 q r) refl))
