-- Laws of a plan made: each rule's edit, with the lengths brought up to date, is the rules' reduction.
use Prim.Native.Nat.{ℕ, suc, ◌*◌, ◌+◌, ◌-◌, ◌<◌, ◌≤◌}
use mathlib.Core.Path.{◌≡◌, ◌∙◌, ap, refl, subst, sym}
use mathlib.Core.List.{List, ◌++◌, map}
use lib.ListN.{drop, length, take}
use native.Mathlib.Omega.{arith}
use Rattle.buffer.specs.LittleEndian.{le, val}
use Rattle.buffer.specs.Slice.{part, put, zeros}
use Rattle.buffer.proofs.LittleEndianLaws.{length-le}
use Rattle.buffer.proofs.SliceLaws.{drop-put, length_part, length-put, zeros-add}
use Rattle.record.specs.Answers.{padded}
use Rattle.record.specs.declared.Header.{Header}
use Rattle.record.specs.Header.{contents_at, encode_term, ok_of}
use Rattle.record.specs.Term.{encode_term_record, simple_size, term_size}
use Rattle.rules.specs.FreeVariables.{adding, all_vars, closed, closed_in, no_vars}
use Rattle.rules.specs.Reduction.{reduce, value_of}
use Rattle.rules.specs.Replaced.{replaced_next}
use Rattle.rules.specs.Sound.{SoundTerm}
use Rattle.rules.specs.Substitution.{Substitution, from_store, only, substitute}
use Rattle.rules.specs.Syntax.{Atom, Simple, Term, let_all, let_one, next, num, plain, rec, tuple}
use Rattle.place.specs.Edit.{lead, leaf_bytes, removed, unrolled}
use Rattle.place.specs.Heads.{record_head, shifted}
use Rattle.place.specs.Nesting.{around, plug, rests}
use Rattle.place.specs.TermPath.{Redex, redex, redex_let_all, redex_let_one, redex_rec, term_path, terms}
use Rattle.place.specs.TermView.{TermAt}
use Rattle.place.specs.Whole.{relength_all, term_front}
use Rattle.substitution.specs.Ranged.{RangedTerm}
use Rattle.substitution.proofs.RangedLaws.{sound-ranged}
use Rattle.record.proofs.PaddedLaws.{padded-zeros}
use Rattle.record.proofs.HeaderLaws.{length-encode_term, length-encode_term_record}
use Rattle.record.proofs.SizeLaws.{term_size-substitute}
use Rattle.rules.proofs.FreeVariablesLaws.{closed-nums}
use Rattle.rules.proofs.SoundTermLaws.{sound-closed}
use Rattle.place.proofs.AtLaws.{put-take}
use Rattle.place.proofs.EditLaws.{length-lead, length-leaf_bytes, length_removed, removed-behind, removed-cut}
use Rattle.place.proofs.HeadsLaws.{length-record_head}
use Rattle.place.proofs.TermBytesLaws.{size-plain, term_size-let_all, term_size-let_one, term_size-plain, term_size-rec, term_size-tuple}
use Rattle.place.proofs.TermEditLaws.{let_all-gone, let_one-gone, let_one-set, rec-stopped, rec-unrolled}
use Rattle.place.proofs.TermPathLaws.{replaced-redex, term_size-plug}
use Rattle.place.proofs.TermPutLaws.{put-let_all-last, put-let_one-last}
use Rattle.place.proofs.TermViewLaws.{let_all-view, let_one-view, term-index, term-read, term-same}
use Rattle.place.proofs.UnrolledLaws.{unrolled-behind}
use Rattle.place.proofs.WholeLaws.{encode_term-relength, length-term_front}
use Rattle.plan.specs.Plan.{Moves}
use Rattle.plan.specs.declared.Plan.{Plan}
use Rattle.reducing.specs.Perform.{Edited, Performed, PlanFits, Ready, filled_at, numeral_at, stopped_at, unrolled_at}
use Rattle.reducing.specs.State.{Stands}
use Rattle.redex.specs.Plan.{plan_of}
use Rattle.reducing.proofs.PlanLaws.{Planned, planned-redex, planned_bind, planned_evaluate, planned_finished, planned_leave, planned_over, planned_stop, planned_unroll, redex-reduces}
use Rattle.reducing.proofs.StateLaws.{redex-bytes, redex-room, redex-sound, redex-stands, redex-used, stands_after, zeros-behind}

module _ {hd : Header} {t : Term} {l : List ℕ} {used : ℕ} (h : Stands hd t l used) where
  abbrev place : ℕ
  place = contents_at hd + 4 * length (term_path t)

  fits-buf : used ≤ length l
  fits-buf = h.holds.within

  -- bytes taken out of l, or of l changed within the record
  tail-removed : (m : List ℕ) (p n : ℕ) → length m ≡ length l → drop used m ≡ drop used l → p + n ≤ used → drop (used - n) (removed m p n used) ≡ zeros (length l - (used - n))
  tail-removed m p n lm e order =
      let fits : used ≤ length l = h.holds.within in
      let z : n + (length l - used) ≡ length l - (used - n) = omega arith in
      removed-behind m p n used order (omega arith) ∙ ap (λ (y : List ℕ). zeros n ++ y) (e ∙ zeros-behind h used (omega arith)) ∙ zeros-add n (length l - used) ∙ ap zeros z

  -- the redex is t₀
  module _ (t₀ : Term) (is : redex t ≡ t₀) where
    front : List ℕ
    front = term_front hd (term_path t) (4 + term_size t₀)

    bytes₀ : take used l ≡ front ++ (encode_term_record t₀ ++ rests terms (term_path t))
    unfolding front
    bytes₀ = subst (λ (u : Term). take used l ≡ term_front hd (term_path t) (4 + term_size u) ++ (encode_term_record u ++ rests terms (term_path t))) is (redex-bytes h)

    used₀ : contents_at hd + (4 + term_size t₀ + around terms (term_path t)) ≡ used
    used₀ = subst (λ (u : Term). contents_at hd + (4 + term_size u + around terms (term_path t)) ≡ used) is (redex-used h)

    room₀ : place + (4 + term_size t₀) ≤ used
    room₀ = subst (λ (u : Term). place + (4 + term_size u) ≤ used) is (redex-room h)

    front₀ : length front ≡ place
    unfolding front
    front₀ = length-term_front hd (term_path t) (4 + term_size t₀)

    at₀ : TermAt l place hd.k t₀
    at₀ = term-same (redex-stands h) is

    sound₀ : SoundTerm (ok_of hd) hd.k no_vars t₀
    sound₀ = subst (λ (u : Term). SoundTerm (ok_of hd) hd.k no_vars u) is (redex-sound h)

    -- any edit m of the bytes that leaves the term u there, and zeros behind the record, where n is what the redex replaces
    made : (u : Term) (m : List ℕ) (up down size n : ℕ) → Redex t₀ → reduce (ok_of hd) t₀ ≡ next u → replaced_next t₀ ≡ n → term_size u + down ≡ term_size t₀ + up → used + up - down ≡ size
        → size ≤ length l → take size m ≡ front ++ (encode_term_record u ++ rests terms (term_path t)) → drop size m ≡ zeros (length l - size)
        → Performed hd t (length l) (relength_all (shifted up down) (contents_at hd) (length (term_path t)) m) (used + up - down) n
    unfolding front
    made u m up down size n r st counts sizes new fits bytes tail =
        let d : Term = plug terms (term_path t) u in
        let goes : reduce (ok_of hd) t ≡ next d = redex-reduces (ok_of hd) t t₀ u is r st in
        let short : used < 65536 = omega (arith, h.short, h.holds.within) in
        let ld : length (encode_term hd d) ≡ contents_at hd + (4 + term_size d) = length-encode_term hd d in
        let zd : term_size d ≡ term_size u + around terms (term_path t) = term_size-plug (term_path t) u in
        let u₀ : contents_at hd + (4 + term_size t₀ + around terms (term_path t)) ≡ used = used₀ in
        let long : length (encode_term hd d) ≡ size = omega arith in
        let pad : padded (length l) (encode_term hd d) ≡ encode_term hd d ++ zeros (length l - size) =
        padded-zeros (length l) (length l - size) (encode_term hd d) (ap (λ (y : ℕ). length l - y) long) in
        let eq : relength_all (shifted up down) (contents_at hd) (length (term_path t)) m ≡ padded (length l) (encode_term hd d) =
        encode_term-relength hd up down (4 + term_size t₀) size (term_path t) u m bytes (omega arith) (omega arith)
        ∙ ap (λ (y : List ℕ). encode_term hd d ++ y) tail ∙ sym pad in
        let stands = stands_after d h goes (omega arith) in
        let to : length (encode_term hd d) ≡ used + up - down = long ∙ sym new in
        record {
          after = d;
          reduces = goes;
          bytes = eq;
          size = sym to;
          replaces = sym (replaced-redex t ∙ ap replaced_next is ∙ counts);
          stands = subst (λ (y : List ℕ). Stands hd d y (used + up - down)) (sym eq) (subst (λ (y : ℕ). Stands hd d (padded (length l) (encode_term hd d)) y) to stands);
        }

    -- a term of the same size stored over the redex
    module _ (t₁ : Term) (same : term_size t₀ ≡ term_size t₁) where
      over : List ℕ
      over = put l place (encode_term_record t₁)

      same_bytes : length (encode_term_record t₀) ≡ length (encode_term_record t₁)
      same_bytes = length-encode_term_record t₀ ∙ ap (λ (y : ℕ). 4 + y) same ∙ sym (length-encode_term_record t₁)

      over-take : take used over ≡ front ++ (encode_term_record t₁ ++ rests terms (term_path t))
      unfolding over
      over-take = put-take used l front (encode_term_record t₀) (rests terms (term_path t)) (encode_term_record t₁) place bytes₀ fits-buf front₀ same_bytes

      over-length : length over ≡ length l
      unfolding over
      over-length = length-put l (encode_term_record t₁) place (omega (arith, room₀, fits-buf, length-encode_term_record t₁))

      over-behind : drop used over ≡ drop used l
      unfolding over
      over-behind = drop-put l (encode_term_record t₁) place used (omega (arith, room₀, length-encode_term_record t₁)) (omega (arith, room₀, fits-buf))

  -- EACH RULE

  abbrev Made : ℕ → ℕ → List ℕ → ℕ → Type 0
  Made up down m n = Performed hd t (length l) (relength_all (shifted up down) (contents_at hd) (length (term_path t)) m) (used + up - down) n

  let_one-made : (x v : ℕ) (a : Atom) (u : Term) → redex t ≡ let_one x (plain a) u → reduce (ok_of hd) (let_one x (plain a) u) ≡ next (substitute (only x v) u)
      → (n : ℕ) → replaced_next (let_one x (plain a) u) ≡ n → Made 0 16 (filled_at l place 16 (substitute (only x v) u) used) n
  unfolding filled_at over
  let_one-made x v a u is st n counts =
      let u₁ : Term = substitute (only x v) u in
      let t₀ : Term = let_one x (plain a) u in
      let t₁ : Term = let_one x (plain a) u₁ in
      let zu : term_size u ≡ term_size u₁ = sym (term_size-substitute (only x v) u) in
      let z₀ : term_size t₀ ≡ 16 + term_size u = term_size-plain x a u in
      let z₁ : term_size t₁ ≡ 16 + term_size u₁ = term_size-plain x a u₁ in
      let same : term_size t₀ ≡ term_size t₁ = omega arith in
      let m : List ℕ = over t₀ is t₁ same in
      let lm : length m ≡ length l = over-length t₀ is t₁ same in
      let e : put l (place + 16) (encode_term_record u₁) ≡ m = put-let_one-last x (plain a) u u₁ (place + 16) (at₀ t₀ is).here (ap (λ (n : ℕ). place + (8 + n)) (sym (size-plain a))) zu in
      let order : place + 16 ≤ used = omega (arith, room₀ t₀ is) in
      let fits : used ≤ length m = omega (arith, fits-buf) in
      subst (λ (y : List ℕ). Made 0 16 (removed y place 16 used) n) (sym e)
      (made t₀ is u₁ (removed m place 16 used) 0 16 (used - 16) n redex_let_one st counts (omega arith) (omega arith) (omega (arith, fits-buf))
      (let_one-gone m (removed m place 16 used) (front t₀ is) (rests terms (term_path t)) place used fits (front₀ t₀ is) x a u₁ (over-take t₀ is t₁ same) (removed-cut m place 16 used order fits))
      (tail-removed m place 16 lm (over-behind t₀ is t₁ same) order))

  let_all-made : (f : Substitution) (ys : List Atom) (u : Term) → redex t ≡ let_all (tuple ys) u → reduce (ok_of hd) (let_all (tuple ys) u) ≡ next (substitute f u)
      → (n : ℕ) → replaced_next (let_all (tuple ys) u) ≡ n → Made 0 (8 + 8 * length ys) (filled_at l place (8 + 8 * length ys) (substitute f u) used) n
  unfolding filled_at over
  let_all-made f ys u is st n counts =
      let gone : ℕ = 8 + 8 * length ys in
      let u₁ : Term = substitute f u in
      let t₀ : Term = let_all (tuple ys) u in
      let t₁ : Term = let_all (tuple ys) u₁ in
      let zu : term_size u ≡ term_size u₁ = sym (term_size-substitute f u) in
      let zy : term_size (tuple ys) ≡ 8 * length ys = term_size-tuple ys in
      let z₀ : term_size t₀ ≡ 8 + term_size (tuple ys) + term_size u = term_size-let_all (tuple ys) u in
      let z₁ : term_size t₁ ≡ 8 + term_size (tuple ys) + term_size u₁ = term_size-let_all (tuple ys) u₁ in
      let same : term_size t₀ ≡ term_size t₁ = omega arith in
      let m : List ℕ = over t₀ is t₁ same in
      let lm : length m ≡ length l = over-length t₀ is t₁ same in
      let e : put l (place + gone) (encode_term_record u₁) ≡ m = put-let_all-last (tuple ys) u u₁ (place + gone) (at₀ t₀ is).here (omega arith) zu in
      let order : place + gone ≤ used = omega (arith, room₀ t₀ is) in
      let fits : used ≤ length m = omega (arith, fits-buf) in
      subst (λ (y : List ℕ). Made 0 gone (removed y place gone used) n) (sym e)
      (made t₀ is u₁ (removed m place gone used) 0 gone (used - gone) n redex_let_all st counts (omega arith) (omega arith) (omega (arith, fits-buf))
      (let_all-gone m (removed m place gone used) (front t₀ is) (rests terms (term_path t)) place used fits (front₀ t₀ is) ys u₁ gone refl (over-take t₀ is t₁ same) (removed-cut m place gone used order fits))
      (tail-removed m place gone lm (over-behind t₀ is t₁ same) order))

  numeral-made : (x v : ℕ) (s : Simple) (u : Term) → redex t ≡ let_one x s u → simple_size s ≡ 12 → reduce (ok_of hd) (let_one x s u) ≡ next (let_one x (plain (num v)) u)
      → (n : ℕ) → replaced_next (let_one x s u) ≡ n → Made 0 4 (numeral_at l place used v) n
  unfolding numeral_at
  numeral-made x v s u is zs st n counts =
      let t₀ : Term = let_one x s u in
      let t₁ : Term = let_one x (plain (num v)) u in
      let z₀ : term_size t₀ ≡ 8 + simple_size s + term_size u = term_size-let_one x s u in
      let z₁ : term_size t₁ ≡ 16 + term_size u = term_size-plain x (num v) u in
      let read : val (part l place 2) ≡ 4 + term_size t₀ = (term-read (at₀ t₀ is) (place + 2) refl).0 in
      let less : 20 + term_size u ≡ val (part l place 2) - 4 = omega arith in
      let order : place + 8 + 4 ≤ used = omega (arith, room₀ t₀ is) in
      let room : place + 20 ≤ used = omega (arith, room₀ t₀ is) in
      let m : List ℕ = removed l (place + 8) 4 used in
      let lm : length m ≡ length l = length_removed l (place + 8) 4 used order fits-buf in
      let w : List ℕ = le 2 (20 + term_size u) in
      let lw : length w ≡ 2 = length-le 2 (20 + term_size u) in
      let m₁ : List ℕ = put m place w in
      let lm₁ : length m₁ ≡ length m = length-put m w place (omega (arith, fits-buf)) in
      let m₂ : List ℕ = put m₁ (place + 8) (leaf_bytes 32 v) in
      subst (λ (y : ℕ). Made 0 4 (put (put m place (le 2 y)) (place + 8) (leaf_bytes 32 v)) n) less
      (made t₀ is t₁ m₂ 0 4 (used - 4) n redex_let_one st counts (omega arith) (omega arith) (omega (arith, fits-buf))
      (let_one-set l m (front t₀ is) (rests terms (term_path t)) place used fits-buf (front₀ t₀ is) x v s u zs (bytes₀ t₀ is) (removed-cut l (place + 8) 4 used order fits-buf))
      (drop-put m₁ (leaf_bytes 32 v) (place + 8) (used - 4) (omega (arith, length-leaf_bytes 32 v)) (omega (arith, fits-buf)) ∙ drop-put m w place (used - 4) (omega arith) (omega (arith, fits-buf))
      ∙ tail-removed l (place + 8) 4 refl refl order))

  stop-made : (x : ℕ) (a : Atom) (ys : List Atom) (u : Term) → redex t ≡ rec x a ys u → reduce (ok_of hd) (rec x a ys u) ≡ next (tuple ys)
      → (c : ℕ) → replaced_next (rec x a ys u) ≡ c → Made 0 (20 + term_size u) (stopped_at l place hd.k (20 + term_size u) used) c
  unfolding stopped_at
  stop-made x a ys u is st c counts =
      let d : ℕ = 20 + term_size u in
      let n : ℕ = 4 + 8 * hd.k in
      let t₀ : Term = rec x a ys u in
      let hk : length ys ≡ hd.k = (sound₀ t₀ is).2 in
      let z₀ : term_size t₀ ≡ 20 + 8 * length ys + term_size u = term_size-rec x a ys u in
      let z₁ : term_size (tuple ys) ≡ 8 * length ys = term_size-tuple ys in
      let order : place + n + d ≤ used = omega (arith, room₀ t₀ is) in
      let w : List ℕ = part l (place + 16) n in
      let lw : length w ≡ n = length_part l (place + 16) n (omega (arith, fits-buf)) in
      let m : List ℕ = put l place w in
      let lm : length m ≡ length l = length-put l w place (omega (arith, fits-buf)) in
      let fits : used ≤ length m = omega (arith, fits-buf) in
      made t₀ is (tuple ys) (removed m (place + n) d used) 0 d (used - d) c redex_rec st counts (omega arith) (omega arith) (omega (arith, fits-buf))
      (rec-stopped l m (removed m (place + n) d used) (front t₀ is) (rests terms (term_path t)) place used x a ys u hd.k d hk refl (bytes₀ t₀ is) fits-buf (front₀ t₀ is) refl
      (removed-cut m (place + n) d used order fits))
      (tail-removed m (place + n) d lm (drop-put l w place used (omega arith) (omega (arith, fits-buf))) order)

  unroll-made : (x q : ℕ) (a : Atom) (ys : List Atom) (u : Term) → redex t ≡ rec x a ys u → reduce (ok_of hd) (rec x a ys u) ≡ next (let_all (rec x (num q) ys u) (let_one x (plain (num (suc q))) u))
      → used + (24 + term_size u) ≤ length l → (c : ℕ) → replaced_next (rec x a ys u) ≡ c → Made (24 + term_size u) 0 (unrolled_at l place hd.k (24 + term_size u) used x (suc q)) c
  unfolding unrolled_at
  unroll-made x q a ys u is st fits c counts =
      let up : ℕ = 24 + term_size u in
      let n : ℕ = up + 8 * hd.k in
      let t₀ : Term = rec x a ys u in
      let hk : length ys ≡ hd.k = (sound₀ t₀ is).2 in
      let b : Term = let_one x (plain (num (suc q))) u in
      let t₁ : Term = let_all (rec x (num q) ys u) b in
      let z₀ : term_size t₀ ≡ 20 + 8 * length ys + term_size u = term_size-rec x a ys u in
      let y₁ : term_size b ≡ 16 + term_size u = term_size-plain x (num (suc q)) u in
      let y₂ : term_size (rec x (num q) ys u) ≡ 20 + 8 * length ys + term_size u = term_size-rec x (num q) ys u in
      let y₃ : term_size t₁ ≡ 8 + term_size (rec x (num q) ys u) + term_size b = term_size-let_all (rec x (num q) ys u) b in
      let order : place + n ≤ used = omega (arith, room₀ t₀ is) in
      let less : suc q - 1 ≡ q = omega arith in
      let m : List ℕ = unrolled l place n (20 + 8 * hd.k) used (record_head 38 (n + up)) (leaf_bytes 32 (suc q - 1)) (lead 37 (up - 4) x 32 (suc q)) in
      made t₀ is t₁ m up 0 (used + up) c redex_rec st counts (omega arith) (omega arith) fits
      (rw less (rec-unrolled l (front t₀ is) (rests terms (term_path t)) place up used x q hd.k a ys u (bytes₀ t₀ is) (front₀ t₀ is) hk refl fits))
      (unrolled-behind l _ _ _ place n (20 + 8 * hd.k) used (used + up) (length-record_head 38 (n + up)) (length-leaf_bytes 32 (suc q - 1)) (length-lead 37 (up - 4) x 32 (suc q)) (omega arith) order
      (omega arith) fits
      ∙ zeros-behind h (used + up) (omega arith))

  -- THE TERMS THAT ARE SUBSTITUTED INTO, and the numerals of a let-all's tuple

  let_one-last : (x : ℕ) (a : Atom) (u : Term) → redex t ≡ let_one x (plain a) u → RangedTerm l (place + 16) hd.k u
  unfolding let_one-view
  let_one-last x a u is =
      let t₀ : Term = let_one x (plain a) u in
      record {
        here = term-index (let_one-view x (plain a) u (at₀ t₀ is)).last-at (ap (λ (n : ℕ). place + (8 + n)) (size-plain a));
        range = sound-ranged (ok_of hd) hd.k (adding x no_vars) u h.holds.header.k-high (sound₀ t₀ is).2;
      }

  let_all-last : (ys : List Atom) (u : Term) → redex t ≡ let_all (tuple ys) u → RangedTerm l (place + (8 + 8 * length ys)) hd.k u
  unfolding let_all-view
  let_all-last ys u is =
      let t₀ : Term = let_all (tuple ys) u in
      record {
        here = term-index (let_all-view (tuple ys) u (at₀ t₀ is)).last-at (ap (λ (n : ℕ). place + (8 + n)) (term_size-tuple ys));
        range = sound-ranged (ok_of hd) hd.k all_vars u h.holds.header.k-high (sound₀ t₀ is).1;
      }

  let_all-first : (ys : List Atom) (u : Term) → redex t ≡ let_all (tuple ys) u → TermAt l (place + 4) hd.k (tuple (map num (map value_of ys)))
  unfolding let_all-view closed closed_in
  let_all-first ys u is =
      let t₀ : Term = let_all (tuple ys) u in
      term-same (let_all-view (tuple ys) u (at₀ t₀ is)).first-at (ap tuple (closed-nums ys (sound-closed (ok_of hd) hd.k (tuple ys) (sound₀ t₀ is).0)))

  -- ANY PLAN

  performs-by : (t₀ : Term) (q : Plan) → Planned (ok_of hd) (length (term_path t)) place t₀ q → redex t ≡ t₀ → Moves q.rule → used + q.up ≤ length l + q.down
      → (m : List ℕ) (n : ℕ) → Edited hd.k q q.rule used l m n → Performed hd t (length l) (relength_all (shifted q.up q.down) (contents_at hd) q.levels m) (used + q.up - q.down) n
  performs-by _ _ planned_finished is moves fits m n e = absurd moves
  performs-by _ _ planned_over is moves fits m n e = absurd moves
  performs-by _ _ (planned_bind {x} {v} {a} {u} st counts) is moves fits m n e =
      let done = e u (let_one-last x a u is) in
      subst (λ (y : List ℕ). Made 0 16 y n) (sym done.0) (let_one-made x v a u is st n (counts ∙ sym done.1))
  performs-by _ _ (planned_evaluate {x} {v} {s} {u} z st counts) is moves fits m n e =
      subst (λ (y : List ℕ). Made 0 4 y n) (sym e.0) (numeral-made x v s u is z st n (counts ∙ sym e.1))
  performs-by _ _ (planned_leave {ys} {u} st counts) is moves fits m n e =
      let done = e (map value_of ys) u (let_all-first ys u is) (let_all-last ys u is) in
      subst (λ (y : List ℕ). Made 0 (8 + 8 * length ys) y n) (sym done.0) (let_all-made (from_store (map value_of ys)) ys u is st n (counts ∙ sym done.1))
  performs-by _ _ (planned_stop {x} {a} {ys} {u} st counts) is moves fits m n e =
      subst (λ (y : List ℕ). Made 0 (20 + term_size u) y n) (sym e.0) (stop-made x a ys u is st n (counts ∙ sym e.1))
  performs-by _ _ (planned_unroll {x} {q} {a} {ys} {u} st counts) is moves fits m n e =
      subst (λ (y : List ℕ). Made (24 + term_size u) 0 y n) (sym e.0) (unroll-made x q a ys u is st (omega arith) n (counts ∙ sym e.1))

  planned : Planned (ok_of hd) (length (term_path t)) place (redex t) (plan_of (contents_at hd) (ok_of hd) t)
  unfolding plan_of
  planned = planned-redex (ok_of hd) (length (term_path t)) place (redex t)

  -- the edit and the lengths of the plan are the reduction
  pub performs : (k contents : ℕ) → hd.k ≡ k → contents_at hd ≡ contents → (q : Plan) → q ≡ plan_of (contents_at hd) (ok_of hd) t → Moves q.rule → used + q.up ≤ length l + q.down → (m₁ m₂ : List ℕ) (c : ℕ) → Edited k q q.rule used l m₁ c
      → m₂ ≡ relength_all (shifted q.up q.down) contents q.levels m₁ → Performed hd t (length l) m₂ (used + q.up - q.down) c
  performs k contents is-k at-contents q e moves fits m₁ m₂ c e₁ e₂ =
      let f : ℕ → List ℕ = λ n. relength_all (shifted q.up q.down) n q.levels m₁ in
      subst (λ (y : List ℕ). Performed hd t (length l) y (used + q.up - q.down) c) (sym (e₂ ∙ ap f (sym at-contents)))
      (performs-by (redex t) q (subst (λ (y : Plan). Planned (ok_of hd) (length (term_path t)) place (redex t) y) (sym e) planned) refl moves fits m₁ c (subst (λ (n : ℕ). Edited n q q.rule used l m₁ c) (sym is-k) e₁))

  -- WHAT THE CODE ASKS

  asks-by : (t₀ : Term) (q : Plan) → Planned (ok_of hd) (length (term_path t)) place t₀ q → redex t ≡ t₀ → used + q.up ≤ length l + q.down → PlanFits (contents_at hd) hd.k q l used
  asks-by _ _ planned_finished is fits = record { edit = tt; levels = omega (arith, redex-room h, fits-buf); up = omega arith; down = omega arith }
  asks-by _ _ planned_over is fits = record { edit = tt; levels = omega (arith, redex-room h, fits-buf); up = omega arith; down = omega arith }
  asks-by _ _ (planned_bind {x} {v} {a} {u} st counts) is fits =
      let t₀ : Term = let_one x (plain a) u in
      let z : term_size t₀ ≡ 16 + term_size u = term_size-plain x a u in
      let room : place + (4 + term_size t₀) ≤ used = room₀ t₀ is in
      let low : x < 17 = omega (arith, (sound₀ t₀ is).0.1, h.holds.header.k-high) in
      record { edit = ((u, let_one-last x a u is), low, omega arith); levels = omega (arith, fits-buf); up = omega arith; down = omega arith }
  asks-by _ _ (planned_evaluate {x} {v} {s} {u} e st counts) is fits =
      let t₀ : Term = let_one x s u in
      let z : term_size t₀ ≡ 8 + simple_size s + term_size u = term_size-let_one x s u in
      let room : place + (4 + term_size t₀) ≤ used = room₀ t₀ is in
      let read : val (part l place 2) ≡ 4 + term_size t₀ = (term-read (at₀ t₀ is) (place + 2) refl).0 in
      record { edit = (omega arith, omega arith); levels = omega (arith, fits-buf); up = omega arith; down = omega arith }
  asks-by _ _ (planned_leave {ys} {u} st counts) is fits =
      let t₀ : Term = let_all (tuple ys) u in
      let z : term_size t₀ ≡ 8 + term_size (tuple ys) + term_size u = term_size-let_all (tuple ys) u in
      let y : term_size (tuple ys) ≡ 8 * length ys = term_size-tuple ys in
      let room : place + (4 + term_size t₀) ≤ used = room₀ t₀ is in
      record {
        edit = ((map value_of ys, let_all-first ys u is), (u, let_all-last ys u is), h.holds.header.k-high, omega arith);
        levels = omega (arith, fits-buf);
        up = omega arith;
        down = omega arith;
      }
  asks-by _ _ (planned_stop {x} {a} {ys} {u} st counts) is fits =
      let t₀ : Term = rec x a ys u in
      let z : term_size t₀ ≡ 20 + 8 * length ys + term_size u = term_size-rec x a ys u in
      let hk : length ys ≡ hd.k = (sound₀ t₀ is).2 in
      let room : place + (4 + term_size t₀) ≤ used = room₀ t₀ is in
      record { edit = (omega arith, omega arith); levels = omega (arith, fits-buf); up = omega arith; down = omega arith }
  asks-by _ _ (planned_unroll {x} {q} {a} {ys} {u} st counts) is fits =
      let t₀ : Term = rec x a ys u in
      let z : term_size t₀ ≡ 20 + 8 * length ys + term_size u = term_size-rec x a ys u in
      let hk : length ys ≡ hd.k = (sound₀ t₀ is).2 in
      let room : place + (4 + term_size t₀) ≤ used = room₀ t₀ is in
      let small : length l ≤ 16384 = h.short in
      record { edit = (omega arith, omega arith, omega arith, omega arith); levels = omega (arith, fits-buf); up = omega arith; down = omega arith }

  plan-fits : (q : Plan) → q ≡ plan_of (contents_at hd) (ok_of hd) t → used + q.up ≤ length l + q.down → PlanFits (contents_at hd) hd.k q l used
  plan-fits q e fits = asks-by (redex t) q (subst (λ (y : Plan). Planned (ok_of hd) (length (term_path t)) place (redex t) y) (sym e) planned) refl fits

  -- BEFORE THE ROOM IS KNOWN: what comes and what goes is no longer than the record

  sums_by : (t₀ : Term) (q : Plan) → Planned (ok_of hd) (length (term_path t)) place t₀ q → redex t ≡ t₀ → (q.up ≤ used) × (q.down ≤ used)
  sums_by _ _ planned_finished is = (omega arith, omega arith)
  sums_by _ _ planned_over is = (omega arith, omega arith)
  sums_by _ _ (planned_bind {x} {v} {a} {u} st counts) is =
      let z : term_size (let_one x (plain a) u) ≡ 16 + term_size u = term_size-plain x a u in
      let room : place + (4 + term_size (let_one x (plain a) u)) ≤ used = room₀ (let_one x (plain a) u) is in
      (omega arith, omega arith)
  sums_by _ _ (planned_evaluate {x} {v} {s} {u} e st counts) is =
      let room : place + (4 + term_size (let_one x s u)) ≤ used = room₀ (let_one x s u) is in
      (omega arith, omega arith)
  sums_by _ _ (planned_leave {ys} {u} st counts) is =
      let z : term_size (let_all (tuple ys) u) ≡ 8 + term_size (tuple ys) + term_size u = term_size-let_all (tuple ys) u in
      let y : term_size (tuple ys) ≡ 8 * length ys = term_size-tuple ys in
      let room : place + (4 + term_size (let_all (tuple ys) u)) ≤ used = room₀ (let_all (tuple ys) u) is in
      (omega arith, omega arith)
  sums_by _ _ (planned_stop {x} {a} {ys} {u} st counts) is =
      let z : term_size (rec x a ys u) ≡ 20 + 8 * length ys + term_size u = term_size-rec x a ys u in
      let room : place + (4 + term_size (rec x a ys u)) ≤ used = room₀ (rec x a ys u) is in
      (omega arith, omega arith)
  sums_by _ _ (planned_unroll {x} {q} {a} {ys} {u} st counts) is =
      let z : term_size (rec x a ys u) ≡ 20 + 8 * length ys + term_size u = term_size-rec x a ys u in
      let room : place + (4 + term_size (rec x a ys u)) ≤ used = room₀ (rec x a ys u) is in
      (omega arith, omega arith)

  pub plan-sums : (q : Plan) → q ≡ plan_of (contents_at hd) (ok_of hd) t → (q.up ≤ used) × (q.down ≤ used)
  plan-sums q e = sums_by (redex t) q (subst (λ (y : Plan). Planned (ok_of hd) (length (term_path t)) place (redex t) y) (sym e) planned) refl

pub ready-fits : {hd : Header} {t : Term} {l : List ℕ} {used k contents : ℕ} (q : Plan) → Ready hd t l used q → hd.k ≡ k → contents_at hd ≡ contents → PlanFits contents k q l used
ready-fits {hd} {t} {l} {used} {k} q h is-k at-contents =
    subst (λ (n : ℕ). PlanFits n k q l used) at-contents (subst (λ (n : ℕ). PlanFits (contents_at hd) n q l used) is-k (plan-fits h.stands q h.plans h.fits))
