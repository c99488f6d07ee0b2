-- The plan by what code reads of the redex.
use Prim.Native.Nat.{◌*◌, ◌+◌, ◌≤◌, suc, ℕ}
use mathlib.Core.Path.{ap, ap₂, subst, sym, ◌∙◌, ◌≡◌}
use mathlib.Core.Bool.{Bool, true}
use mathlib.Core.List.{List}
use lib.ListN.{length}
use native.Mathlib.Omega.{arith}
use Rattle.buffer.specs.LittleEndian.{val}
use Rattle.buffer.specs.Slice.{part}
use Rattle.place.specs.TermPath.{redex, term_path, terms}
use Rattle.place.specs.TermView.{TermAt}
use Rattle.record.specs.declared.Header.{Header}
use Rattle.record.specs.Header.{contents_at, ok_of}
use Rattle.record.specs.Holding.{TermIn}
use Rattle.record.specs.Term.{atom_kind, atom_number, term_size}
use Rattle.rules.specs.FreeVariables.{adding, atom_of_simple, closed, closed_atom, closed_atoms, closed_in, closed_simple, no_vars}
use Rattle.rules.specs.Reduction.{value_of}
use Rattle.rules.specs.Sound.{SoundTerm}
use Rattle.rules.specs.Store.{minus_one}
use Rattle.rules.specs.Syntax.{Atom, Simple, Term, let_all, let_one, num, plain, pred_of, rec, ref, succ_of, tuple}
use Rattle.rules.proofs.SoundTermLaws.{sound-closed}
use Rattle.rules.proofs.Tests.{and_both, true-false}
use Rattle.place.proofs.NestingLaws.{plug-keeps}
use Rattle.place.proofs.TermBytesLaws.{atom_kind-range, kind-num, kind-ref, simple-least}
use Rattle.place.proofs.TermPathLaws.{plug-redex, redex-at}
use Rattle.place.proofs.TermViewLaws.{as-let_all, as-let_atom, as-let_one, as-let_pred, as-let_succ, as-rec, as-tuple, simple-kind, term-index, term-kind, term-same}
use Rattle.place.proofs.WholeLaws.{term-at}
use Rattle.plan.specs.Plan.{plan, plan_raise, plan_turn}
use Rattle.plan.specs.declared.Plan.{Plan}
use Rattle.plan.specs.declared.Rule.TheVariants.{Bind, Evaluate, Finished, Leave}
use Rattle.redex.specs.Plan.{plan_let_one, plan_of, plan_redex}

-- NUMERALS: the atoms of a closed term's redex

closed-kind : (a : Atom) → closed_atom no_vars a ≡ true → atom_kind a ≡ 32
unfolding closed_atom
closed-kind (num n) h =
    let r : atom_kind (num n) ≡ 33 → ⊥ = λ e. apart (atom_number (num n)) (kind-ref (num n) e) in
    omega (arith, atom_kind-range (num n), r)
  where
    apart : (x : ℕ) → num n ≡ ref x → ⊥
    apart x e = let z : ◌≡◌ {A = ℕ} 0 1 = cc in omega arith
closed-kind (ref x) h = true-false (sym h)

closed-number : (a : Atom) → closed_atom no_vars a ≡ true → atom_number a ≡ value_of a
unfolding value_of
closed-number a h = sym (ap value_of (kind-num a (closed-kind a h)))

closed-bound : (x : ℕ) (s : Simple) (t : Term) → closed (let_one x s t) ≡ true → closed_atom no_vars (atom_of_simple s) ≡ true
unfolding closed closed_in closed_simple
closed-bound x (plain a) t h = (and_both (closed_atom no_vars a) (closed_in (adding x no_vars) t) h).0
closed-bound x (succ_of a) t h = (and_both (closed_atom no_vars a) (closed_in (adding x no_vars) t) h).0
closed-bound x (pred_of a) t h = (and_both (closed_atom no_vars a) (closed_in (adding x no_vars) t) h).0

closed-count : (x : ℕ) (a : Atom) (l : List Atom) (t : Term) → closed (rec x a l t) ≡ true → closed_atom no_vars a ≡ true
unfolding closed closed_in
closed-count x a l t h = (and_both (closed_atom no_vars a) (closed_atoms no_vars l) h).0

-- THE REDEX, by the kinds read

module _ {l : List ℕ} {at k : ℕ} {t : Term} (h : TermAt l at k t) where
  module _ (one : val (part l (at + 2) 2) ≡ 37) where
    -- all that is read of a let-one
    pub one-room : at + 20 ≤ length l
    one-room = let v = as-let_one h one in omega (arith, v.room, v.size, simple-least v.bound)

    module _ (c : closed t ≡ true) (ok : ℕ → Bool) (levels x : ℕ) (ex : x ≡ val (part l (at + 4) 4)) where
      pub let-atom : val (part l (at + 10) 2) ≡ 32 → (n : ℕ) → n ≡ val (part l (at + 12) 4) → plan levels at Bind x n 0 16 ≡ plan_redex ok levels at t
      unfolding plan_redex plan_let_one
      let-atom e n en =
          let v = as-let_atom h one (omega arith) in
          let w = ap closed (sym v.is) ∙ c in
          ap₂ (λ (m d : ℕ). plan levels at Bind m d 0 16) (ex ∙ v.variable-read) (en ∙ v.number_read ∙ closed-number v.atom (closed-bound v.variable (plain v.atom) v.last w))
          ∙ sym (ap (plan_redex ok levels at) v.is)

      pub let-pred : val (part l (at + 10) 2) ≡ 35 → (n d : ℕ) → n ≡ val (part l (at + 16) 4) → d ≡ minus_one n → plan levels at Evaluate x d 0 4 ≡ plan_redex ok levels at t
      unfolding plan_redex plan_let_one
      let-pred e n d en ed =
          let v = as-let_pred h one e in
          let w = ap closed (sym v.is) ∙ c in
          ap₂ (λ (m y : ℕ). plan levels at Evaluate m y 0 4) (ex ∙ v.variable-read) (ed ∙ ap minus_one (en ∙ v.number_read ∙ closed-number v.atom (closed-bound v.variable (pred_of v.atom) v.last w)))
          ∙ sym (ap (plan_redex ok levels at) v.is)

      -- a variable would be free
      not-open : val (part l (at + 10) 2) ≡ 33 → ⊥
      not-open e =
          let v = as-let_atom h one (omega arith) in
          let w = ap closed (sym v.is) ∙ c in
          omega (arith, v.kind-read, closed-kind v.atom (closed-bound v.variable (plain v.atom) v.last w))

      succ-kind : (val (part l (at + 10) 2) ≡ 32 → ⊥) → (val (part l (at + 10) 2) ≡ 35 → ⊥) → val (part l (at + 10) 2) ≡ 34
      succ-kind a b = omega (arith, simple-kind h one, not-open)

      pub let-succ : (val (part l (at + 10) 2) ≡ 32 → ⊥) → (val (part l (at + 10) 2) ≡ 35 → ⊥) → (n : ℕ) → n ≡ val (part l (at + 16) 4)
          → plan_raise levels at x (suc n) 4 (ok (suc n)) ≡ plan_redex ok levels at t
      unfolding plan_redex plan_let_one
      let-succ a b n en =
          let v = as-let_succ h one (succ-kind a b) in
          let w = ap closed (sym v.is) ∙ c in
          ap₂ (λ (m d : ℕ). plan_raise levels at m (suc d) 4 (ok (suc d))) (ex ∙ v.variable-read) (en ∙ v.number_read ∙ closed-number v.atom (closed-bound v.variable (succ_of v.atom) v.last w))
          ∙ sym (ap (plan_redex ok levels at) v.is)

  module _ (r : val (part l (at + 2) 2) ≡ 39) where
    -- all that is read of a rec; its body's record is the rec's but for 20 bytes and the start tuple's atoms
    pub rec-room : (at + 20 ≤ length l) × (24 + 8 * k ≤ val (part l at 2))
    rec-room = let v = as-rec h r in (omega (arith, v.room, v.size), omega (arith, v.stored))

    pub rec-plan : closed t ≡ true → (ok : ℕ → Bool) (levels x b n : ℕ) → x ≡ val (part l (at + 4) 4) → b + (20 + 8 * k) ≡ val (part l at 2) → n ≡ val (part l (at + 12) 4)
        → plan_turn levels at x b n ≡ plan_redex ok levels at t
    unfolding plan_redex
    rec-plan c ok levels x b n ex eb en =
        let v = as-rec h r in
        let w = ap closed (sym v.is) ∙ c in
        let s : b ≡ 4 + term_size v.body = omega (arith, v.stored) in
        ap₂ (λ (m d : ℕ). plan_turn levels at m b d) (ex ∙ v.variable-read) (en ∙ v.number_read ∙ closed-number v.count (closed-count v.variable v.count v.start v.body w))
        ∙ ap (λ (m : ℕ). plan_turn levels at v.variable m (value_of v.count)) s
        ∙ sym (ap (plan_redex ok levels at) v.is)

-- THE WHOLE TERM

-- the first term of a let-all that is a redex is a tuple
redex-tuple : (t s u : Term) → redex t ≡ let_all s u → (ys : List Atom) × (s ≡ tuple ys)
unfolding redex
redex-tuple (tuple ys) s u e = let z : ◌≡◌ {A = ℕ} 0 1 = cc in absurd (omega arith)
redex-tuple (let_one x b t) s u e = let z : ◌≡◌ {A = ℕ} 0 1 = cc in absurd (omega arith)
redex-tuple (rec x a ys t) s u e = let z : ◌≡◌ {A = ℕ} 0 1 = cc in absurd (omega arith)
redex-tuple (let_all (tuple ys) v) s u e = (ys, cc)
redex-tuple (let_all (let_one x b t) v) s u e = let z : ◌≡◌ {A = ℕ} 0 1 = cc in absurd (omega arith)
redex-tuple (let_all (let_all a b) v) s u e = redex-tuple (let_all a b) s u e
redex-tuple (let_all (rec x a ys t) v) s u e = let z : ◌≡◌ {A = ℕ} 0 1 = cc in absurd (omega arith)

redex-sound : (ok : ℕ → Bool) (k : ℕ) (t : Term) → SoundTerm ok k no_vars t → SoundTerm ok k no_vars (redex t)
redex-sound ok k t h =
    plug-keeps terms (SoundTerm ok k no_vars) (λ s u w. w.0) (term_path t) (redex t) (subst (SoundTerm ok k no_vars) (sym (plug-redex t)) h)

module _ {hd : Header} {t : Term} {l : List ℕ} {used k contents : ℕ} (h : TermIn no_vars hd t l used) (is-k : hd.k ≡ k) (st : contents_at hd ≡ contents) (low : length l ≤ 16384) where
  -- the term stands behind the header
  pub whole : TermAt l contents k t
  whole = subst (λ (n : ℕ). TermAt l contents n t) is-k (term-index (term-at h low) st)

  -- `counts` is what the walk through the heads gives
  module _ {levels : ℕ} (counts : (n : ℕ) (u : Term) → TermAt l contents n u → levels ≡ length (term_path u)) where
    abbrev place : ℕ
    place = contents + 4 * levels

    -- the redex stands behind the heads of the open let-alls
    pub found : TermAt l place k (redex t)
    found = term-index (redex-at whole) (ap (λ (n : ℕ). contents + 4 * n) (sym (counts k t whole)))

    module _ (ok : ℕ → Bool) where
      plan-found : plan_redex ok levels place (redex t) ≡ plan_of contents ok t
      unfolding plan_of
      plan-found = ap (λ (n : ℕ). plan_redex ok n (contents + 4 * n) (redex t)) (counts k t whole)

      -- from what is known of any closed term that stands there
      pub plan-closed : {q : Plan} → ((u : Term) → TermAt l place k u → closed u ≡ true → q ≡ plan_redex ok levels place u) → q ≡ plan_of contents ok t
      plan-closed says = says (redex t) found (sound-closed (ok_of hd) hd.k (redex t) (redex-sound (ok_of hd) hd.k t h.sound)) ∙ plan-found

      pub plan-tuple : val (part l (place + 2) 2) ≡ 36 → plan levels place Finished 0 0 0 0 ≡ plan_of contents ok t
      unfolding plan_redex
      plan-tuple e = sym (ap (plan_redex ok levels place) (as-tuple found e).is) ∙ plan-found

      pub plan-let_all : (val (part l (place + 2) 2) ≡ 37 → ⊥) → (val (part l (place + 2) 2) ≡ 39 → ⊥) → (val (part l (place + 2) 2) ≡ 36 → ⊥)
          → plan levels place Leave 0 0 0 (8 + 8 * k) ≡ plan_of contents ok t
      unfolding plan_redex
      plan-let_all a b c =
          let v = as-let_all found (omega (arith, term-kind found)) in
          let y = redex-tuple t v.first v.last v.is in
          let is : redex t ≡ let_all (tuple y.0) v.last = v.is ∙ ap (λ (s : Term). let_all s v.last) y.1 in
          let n : length y.0 ≡ k = (term-same found is).words.0.0 in
          ap (λ (m : ℕ). plan levels place Leave 0 0 0 (8 + 8 * m)) (sym n) ∙ sym (ap (plan_redex ok levels place) is) ∙ plan-found
