-- A redex changed in place, and parts of a term stored over: the bytes before and after.
use Prim.Native.Nat.{◌*◌, ◌+◌, ◌-◌, ◌≤◌, suc, ℕ}
use mathlib.Core.Path.{ap, sym, ◌∙◌, ◌≡◌}
use mathlib.Core.List.{◌++◌, List, append_assoc}
use lib.ListN.{drop, length, length-append, length-drop, take, take-append-drop}
use lib.Seq.{length-take-le}
use native.Mathlib.Omega.{arith}
use Rattle.buffer.specs.LittleEndian.{le}
use Rattle.buffer.specs.Slice.{part, put}
use Rattle.rules.specs.Syntax.{Atom, Simple, Term, let_all, let_one, num, plain, rec, tuple}
use Rattle.record.specs.Term.{atom_from, atom_kind, atom_number, encode_atom, encode_simple, encode_term_record, simple_size, term_size}
use Rattle.buffer.proofs.LittleEndianLaws.{length-le}
use Rattle.buffer.proofs.SliceLaws.{part-re, put-re}
use Rattle.record.proofs.TermLaws.{length-encode_simple}
use Rattle.record.proofs.HeaderLaws.{length-encode_term_record}
use Rattle.place.specs.Edit.{Cut, lead, leaf_bytes, unrolled}
use Rattle.place.specs.Heads.{record_head}
use Rattle.place.proofs.AtLaws.{split-take, take_split}
use Rattle.place.proofs.EditLaws.{cut-re, length-lead, length-leaf_bytes}
use Rattle.place.proofs.HeadsLaws.{length-record_head, put-length}
use Rattle.place.proofs.ProgramBytesLaws.{encode_leaf-head}
use Rattle.place.proofs.TermBytesLaws.{encode_simple-plain, encode_term_record-let_all, encode_term_record-let_one, encode_term_record-rec, length-encode_atom, term_size-let_one, term_size-rec, term_size-tuple}
use Rattle.place.proofs.UnrolledLaws.{unrolled-take}

-- THE PIECES

pub encode_atom-leaf : (a : Atom) → encode_atom a ≡ leaf_bytes (atom_kind a) (atom_number a)
unfolding leaf_bytes
encode_atom-leaf a = encode_leaf-head atom_kind atom_number atom_from a

pub encode_term_record-let_one-lead : (x : ℕ) (a : Atom) (t : Term)
    → encode_term_record (let_one x (plain a) t) ≡ lead 37 (20 + term_size t) x (atom_kind a) (atom_number a) ++ encode_term_record t
unfolding lead simple_size
encode_term_record-let_one-lead x a t =
    encode_term_record-let_one x (plain a) t ∙ rw (encode_simple-plain a, encode_atom-leaf a) (simp append_assoc)

pub encode_term_record-rec-lead : (x : ℕ) (a : Atom) (ys : List Atom) (t : Term)
    → encode_term_record (rec x a ys t)
    ≡ lead 39 (24 + 8 * length ys + term_size t) x (atom_kind a) (atom_number a) ++ (encode_term_record (tuple ys) ++ encode_term_record t)
unfolding lead
encode_term_record-rec-lead x a ys t = encode_term_record-rec x a ys t ∙ rw (encode_atom-leaf a) (simp append_assoc)

-- THE REDEX GONE, BUT FOR ITS LAST TERM

module _ (l m pre post : List ℕ) (p used : ℕ) (fits : used ≤ length l) (place : length pre ≡ p) where
  -- a let-one of an atom
  pub let_one-gone : (x : ℕ) (a : Atom) (t : Term) → take used l ≡ pre ++ (encode_term_record (let_one x (plain a) t) ++ post) → Cut l m p 16 used
      → take (used - 16) m ≡ pre ++ (encode_term_record t ++ post)
  let_one-gone x a t h c =
      let b : List ℕ = lead 37 (20 + term_size t) x (atom_kind a) (atom_number a) in
      cut-re l m pre b (encode_term_record t ++ post) p 16 used c (h ∙ rw (encode_term_record-let_one-lead x a t) (simp append_assoc)) fits place
      (length-lead 37 (20 + term_size t) x (atom_kind a) (atom_number a))

  -- a let-all of a tuple
  pub let_all-gone : (ys : List Atom) (u : Term) (d : ℕ) → d ≡ 8 + 8 * length ys → take used l ≡ pre ++ (encode_term_record (let_all (tuple ys) u) ++ post) → Cut l m p d used
      → take (used - d) m ≡ pre ++ (encode_term_record u ++ post)
  let_all-gone ys u d ed h c =
      let n : ℕ = 12 + term_size (tuple ys) + term_size u in
      let b : List ℕ = record_head 38 n ++ encode_term_record (tuple ys) in
      let lb : length b ≡ d = rw (length-append (record_head 38 n) (encode_term_record (tuple ys)), length-record_head 38 n, length-encode_term_record (tuple ys), term_size-tuple ys) (omega arith) in
      cut-re l m pre b (encode_term_record u ++ post) p d used c (h ∙ rw (encode_term_record-let_all (tuple ys) u) (simp append_assoc)) fits place lb

  -- A LET-ONE OF SUCC OR PRED becomes one of a numeral: the 4 bytes at p + 8 go, and its length and its atom are stored
  pub let_one-set : (x v : ℕ) (s : Simple) (t : Term) → simple_size s ≡ 12 → take used l ≡ pre ++ (encode_term_record (let_one x s t) ++ post) → Cut l m (p + 8) 4 used
      → take (used - 4) (put (put m p (le 2 (20 + term_size t))) (p + 8) (leaf_bytes 32 v)) ≡ pre ++ (encode_term_record (let_one x (plain (num v)) t) ++ post)
  unfolding lead atom_kind atom_number
  let_one-set x v s t hs h c =
      let N : ℕ = 12 + simple_size s + term_size t in
      let N' : ℕ = 20 + term_size t in
      let e : List ℕ = encode_simple s in
      let le₁ : length e ≡ 12 = length-encode_simple s ∙ hs in
      let f : List ℕ = take 4 e in
      let g : List ℕ = drop 4 e in
      let lg : length g ≡ 8 = length-drop 4 e ∙ omega arith in
      let fg : f ++ g ≡ e = take-append-drop 4 e in
      let P : List ℕ = pre ++ (record_head 37 N ++ le 4 x) in
      let l_p : length P ≡ p + 8 = simp (length-append, length-record_head, length-le) (omega arith) in
      let q : List ℕ = encode_term_record t ++ post in
      let h₀ : take used l ≡ P ++ (e ++ q) = h ∙ rw (encode_term_record-let_one x s t) (simp append_assoc) in
      let h₁ : take used l ≡ P ++ (f ++ (g ++ q)) = h₀ ∙ ap (λ (y : List ℕ). P ++ (y ++ q)) (sym fg) ∙ simp append_assoc in
      let u : used ≡ p + 8 + (12 + length q) =
      sym (length-take-le used l fits) ∙ ap length h ∙ rw (encode_term_record-let_one x s t) (simp (length-append, length-record_head, length-le, le₁) (omega arith)) in
      let cut : take (used - 4) m ≡ P ++ (g ++ q) = cut-re l m P f (g ++ q) (p + 8) 4 used c h₁ fits l_p (length-take-le 4 e (omega arith)) in
      let d : List ℕ = drop (used - 4) m in
      let is : m ≡ pre ++ (record_head 37 N ++ (le 4 x ++ (g ++ (q ++ d)))) = take_split (used - 4) m (P ++ (g ++ q)) cut ∙ simp append_assoc in
      let w₁ : put m p (le 2 N') ≡ pre ++ (record_head 37 N' ++ (le 4 x ++ (g ++ (q ++ d)))) = put-length m pre (le 4 x ++ (g ++ (q ++ d))) p 37 N N' is place in
      let P' : List ℕ = pre ++ (record_head 37 N' ++ le 4 x) in
      let w₂ : put (put m p (le 2 N')) (p + 8) (leaf_bytes 32 v) ≡ P' ++ (leaf_bytes 32 v ++ (q ++ d)) =
      put-re (put m p (le 2 N')) P' g (q ++ d) (leaf_bytes 32 v) (p + 8) (w₁ ∙ simp append_assoc) (simp (length-append, length-record_head, length-le) (omega arith)) (lg ∙ sym (length-leaf_bytes 32 v)) in
      let lw : length (P' ++ (leaf_bytes 32 v ++ q)) ≡ used - 4 =
      simp (length-append, length-record_head, length-le, length-leaf_bytes) (omega (arith, length-append (encode_term_record t) post)) in
      split-take (used - 4) _ (P' ++ (leaf_bytes 32 v ++ q)) d (w₂ ∙ simp append_assoc) lw
      ∙ rw (encode_term_record-let_one-lead x (num v) t) (simp append_assoc)

-- A REC OF 0 becomes its start tuple: the tuple moves down to p, and what is between it and the rest goes
pub rec-stopped : (l m₁ m₂ pre post : List ℕ) (p used x : ℕ) (a : Atom) (ys : List Atom) (t : Term) (k d : ℕ) → length ys ≡ k → d ≡ 20 + term_size t
    → take used l ≡ pre ++ (encode_term_record (rec x a ys t) ++ post) → used ≤ length l → length pre ≡ p
    → m₁ ≡ put l p (part l (p + 16) (4 + 8 * k)) → Cut m₁ m₂ (p + (4 + 8 * k)) d used
    → take (used - d) m₂ ≡ pre ++ (encode_term_record (tuple ys) ++ post)
rec-stopped l m₁ m₂ pre post p used x a ys t k d hk hd h fits hp e₁ c =
    let n : ℕ = 4 + 8 * k in
    let L : List ℕ = lead 39 (24 + 8 * length ys + term_size t) x (atom_kind a) (atom_number a) in
    let l_l : length L ≡ 16 = length-lead 39 (24 + 8 * length ys + term_size t) x (atom_kind a) (atom_number a) in
    let T : List ℕ = encode_term_record (tuple ys) in
    let l_t : length T ≡ n = length-encode_term_record (tuple ys) ∙ rw (term_size-tuple ys, hk) in
    let B : List ℕ = encode_term_record t in
    let l_b : length B ≡ 4 + term_size t = length-encode_term_record t in
    let W : List ℕ = L ++ T in
    let l_w : length W ≡ 16 + n = rw (length-append L T, l_l, l_t) in
    let f : List ℕ = take n W in
    let g : List ℕ = drop n W in
    let lg : length g ≡ 16 = length-drop n W ∙ omega arith in
    let fg : f ++ g ≡ W = take-append-drop n W in
    let D : List ℕ = drop used l in
    let is : l ≡ pre ++ (L ++ (T ++ (B ++ (post ++ D)))) =
    take_split used l (pre ++ (encode_term_record (rec x a ys t) ++ post)) h ∙ rw (encode_term_record-rec-lead x a ys t) (simp append_assoc) in
    let u : used ≡ p + (16 + (n + (length B + length post))) =
    sym (length-take-le used l fits) ∙ ap length h ∙ rw (encode_term_record-rec-lead x a ys t) (simp (length-append, l_l, l_t) (omega arith)) in
    let moved : part l (p + 16) n ≡ T = part-re l (pre ++ L) T (B ++ (post ++ D)) (p + 16) n (is ∙ simp append_assoc) (rw (length-append pre L, l_l) (ap (λ (y : ℕ). y + 16) hp)) l_t in
    let is₂ : l ≡ pre ++ (f ++ (g ++ (B ++ (post ++ D)))) = is ∙ rw (← append_assoc f g (B ++ (post ++ D)), fg) (simp append_assoc) in
    let w₁ : m₁ ≡ pre ++ (T ++ (g ++ (B ++ (post ++ D)))) =
    e₁ ∙ ap (put l p) moved ∙ put-re l pre f (g ++ (B ++ (post ++ D))) T p is₂ hp (length-take-le n W (omega arith) ∙ sym l_t) in
    let all : List ℕ = pre ++ (T ++ ((g ++ B) ++ post)) in
    let la : length all ≡ used = simp (length-append, l_t, lg) (omega arith) in
    let h₁ : take used m₁ ≡ all = split-take used m₁ all D (w₁ ∙ simp append_assoc) la in
    let fits₁ : used ≤ length m₁ = rw (w₁) (simp (length-append, l_t, lg) (omega arith)) in
    cut-re m₁ m₂ (pre ++ T) (g ++ B) post (p + n) d used c (h₁ ∙ simp append_assoc) fits₁ (rw (length-append pre T, l_t) (ap (λ (y : ℕ). y + n) hp)) (rw (length-append g B, lg, l_b) (omega arith))
    ∙ simp append_assoc

-- A REC OF q + 1 UNROLLED
pub rec-unrolled : (l pre post : List ℕ) (p up used x q k : ℕ) (a : Atom) (ys : List Atom) (t : Term) → take used l ≡ pre ++ (encode_term_record (rec x a ys t) ++ post) → length pre ≡ p
    → length ys ≡ k → up ≡ 24 + term_size t → used + up ≤ length l
    → take (used + up) (unrolled l p (up + 8 * k) (20 + 8 * k) used (record_head 38 (up + 8 * k + up)) (leaf_bytes 32 q) (lead 37 (up - 4) x 32 (suc q)))
    ≡ pre ++ (encode_term_record (let_all (rec x (num q) ys t) (let_one x (plain (num (suc q))) t)) ++ post)
unfolding atom_kind atom_number simple_size
rec-unrolled l pre post p up used x q k a ys t h hp hk hu fits =
    let n : ℕ = up + 8 * k in
    let N : ℕ = 24 + 8 * length ys + term_size t in
    let hd : List ℕ = record_head 39 N in
    let T : List ℕ = encode_term_record (tuple ys) in
    let l_t : length T ≡ 4 + 8 * k = length-encode_term_record (tuple ys) ∙ rw (term_size-tuple ys, hk) in
    let B : List ℕ = encode_term_record t in
    let l_b : length B ≡ 4 + term_size t = length-encode_term_record t in
    let lb : 20 + length B ≡ up = omega arith in
    let u : Term = let_one x (plain (num (suc q))) t in
    let is : take used l ≡ pre ++ (hd ++ (le 4 x ++ (encode_atom a ++ (T ++ (B ++ post))))) = h ∙ rw (encode_term_record-rec x a ys t) (simp append_assoc) in
    let zr : term_size (rec x (num q) ys t) ≡ 20 + 8 * k + term_size t = rw (← hk) (term_size-rec x (num q) ys t) in
    let zu : term_size u ≡ 16 + term_size t = term_size-let_one x (plain (num (suc q))) t in
    let z : 12 + term_size (rec x (num q) ys t) + term_size u ≡ n + up = omega arith in
    let zl : 20 + term_size t ≡ up - 4 = omega arith in
    let w =
    unrolled-take l pre hd (le 4 x) (encode_atom a) T B post (record_head 38 (n + up)) (leaf_bytes 32 q) (lead 37 (up - 4) x 32 (suc q)) p n (20 + 8 * k) used is (rw lb fits) hp
    (length-record_head 39 N) (length-le 4 x) (length-encode_atom a) (rw l_t (omega arith)) (omega arith) (length-record_head 38 (n + up)) (length-leaf_bytes 32 q)
    (length-lead 37 (up - 4) x 32 (suc q)) in
    rw lb at w
    ∙ rw (encode_term_record-let_all (rec x (num q) ys t) u, z, encode_term_record-rec x (num q) ys t, encode_atom-leaf (num q), encode_term_record-let_one-lead x (num (suc q)) t, zl) (simp append_assoc)
