-- The record layer's decoders by a reader's walk: each record inside a term is read where the one before it ends.
use Prim.Native.Nat.{◌*◌, ◌+◌, ◌-◌, ◌<◌, suc, ℕ, ◌≤◌}
use mathlib.Core.Path.{◌≡◌, ap, ap₂, refl, sym, ◌∙◌}
use mathlib.Core.Bool.{Bool, false, true}
use mathlib.Core.List.{List, ◌∷◌}
use mathlib.Core.Option.{Option, none, some}
use borrow.Author.Tests.{eqb-false, eqb-true, leb-false, leb-true}
use lib.Dec.{eqb, leb}
use lib.ListN.{drop, length, length-drop, take}
use lib.Seq.{drop-drop, length-take-le, take-take}
use native.Mathlib.Omega.{arith}
use Rattle.buffer.specs.LittleEndian.{val}
use Rattle.buffer.specs.Slice.{part}
use Rattle.rules.specs.Syntax.{Atom, Term, let_all, let_one, rec}
use Rattle.record.specs.Alone.{only_simple, only_tuple, record_kind}
use Rattle.record.specs.Header.{term_in}
use Rattle.record.specs.Reading.{bind}
use Rattle.record.specs.Term.{decode_atoms, only_atom}
use Rattle.record.proofs.AloneLaws.{bind-found, bind-none, record_kind-least, record_kind-none}
use Rattle.record.proofs.BetweenLaws.{drop-take}
use Rattle.record.proofs.FrontLaws.{none-unless}
use Rattle.record.proofs.ReadingLaws.{bind_inv}
use Rattle.record.proofs.TermReadLaws.{decode_atoms-long, decode_atoms-next, let_all-none, let_all-two, let_one-last, let_one-none, only_atom-long, only_atom-other, only_simple-plain, only_tuple-other, only_tuple-read, rec-last, rec-none, term-other}
use Rattle.reader.specs.Head.{length_at, next_at}
use Rattle.reader.proofs.HeadLaws.{next-record, record-tells}
use Rattle.term_checker.specs.RecordAt.{record_at}
use Rattle.term_checker.proofs.WalkLaws.{Stands, empty-kind, found_inside, found-next, look, next-front, next-length, next-most, nothing, part_length, record-between, stands_here, stands-length, whole}

-- only what was found is gone on with
bind-same : {A B : Type 0} (o : Option A) (f g : A → Option B) → ((a : A) → o ≡ some a → f a ≡ g a) → bind o f ≡ bind o g
bind-same none f g h = bind-none none f refl ∙ sym (bind-none none g refl)
bind-same (some a) f g h = bind-found (some a) f a refl ∙ h a refl ∙ sym (bind-found (some a) g a refl)

-- NO RECORD: nothing is decoded

module _ (x : List ℕ) (e : record_kind x ≡ 0) where
  pub atom-none : only_atom x ≡ none
  atom-none = only_atom-other x (λ q. omega (arith, e, q)) (λ q. omega (arith, e, q))

  pub simple-none : only_simple x ≡ none
  simple-none = only_simple-plain x (λ q. omega (arith, e, q)) (λ q. omega (arith, e, q)) ∙ bind-none (only_atom x) _ atom-none

  pub tuple-none : (k : ℕ) → only_tuple k x ≡ none
  tuple-none k = only_tuple-other k x (λ q. omega (arith, e, q))

  pub term-none : (k : ℕ) → term_in k x ≡ none
  term-none k = term-other k x (λ q. omega (arith, e, q)) (λ q. omega (arith, e, q)) (λ q. omega (arith, e, q)) (λ q. omega (arith, e, q))

-- under four bytes
brief-kind : (x : List ℕ) → length x < 4 → record_kind x ≡ 0
brief-kind x h = record_kind-none x (λ four is. omega arith)

tuple-long : (k : ℕ) (x : List ℕ) → (length x ≡ 4 + 8 * k → ⊥) → only_tuple k x ≡ none
tuple-long k x h = go (eqb (record_kind x) 36) refl
  where
    go : (t : Bool) → eqb (record_kind x) 36 ≡ t → only_tuple k x ≡ none
    go true t =
        let e = eqb-true (record_kind x) 36 t in
        let least = record_kind-least x 36 e (omega arith) in
        only_tuple-read k x e ∙ decode_atoms-long k (drop 4 x) (λ q. h (omega (arith, q, length-drop 4 x, least)))
    go false t = only_tuple-other k x (eqb-false (record_kind x) 36 t)

-- A ROW OF ATOMS

pub atoms-first : (n : ℕ) (l : List ℕ) (at : ℕ) → at + 8 * suc n ≤ length l
    → decode_atoms (suc n) (part l at (8 * suc n)) ≡ bind (only_atom (record_at l at)) (λ a. bind (decode_atoms n (part l (at + 8) (8 * n))) (λ ys. some (a ∷ ys)))
unfolding part
atoms-first n l at h =
    let size : length (take (8 * suc n) (drop at l)) ≡ 8 * suc n = length-take-le (8 * suc n) (drop at l) (omega (arith, length-drop at l)) in
    let first : only_atom (take 8 (take (8 * suc n) (drop at l))) ≡ only_atom (record_at l at) =
    ap only_atom (take-take 8 (8 * suc n) (drop at l) (omega arith)) ∙ next-front l at 8 (omega arith) only_atom atom-none only_atom-long (omega arith) in
    let rest : drop 8 (take (8 * suc n) (drop at l)) ≡ take (8 * n) (drop (at + 8) l) =
    drop-take 8 (8 * suc n) (drop at l) ∙ ap (take (8 * suc n - 8)) (drop-drop 8 at l) ∙ ap (λ (m : ℕ). take m (drop (at + 8) l)) {x = 8 * suc n - 8} {y = 8 * n} (omega arith) in
    decode_atoms-next n (take (8 * suc n) (drop at l)) (omega (arith, size))
    ∙ ap₂ (λ (o : Option Atom) (b : List ℕ). bind o (λ a. bind (decode_atoms n b) (λ ys. some (a ∷ ys)))) first rest

pub atom-next : (l : List ℕ) (at : ℕ) (a : Atom) → only_atom (record_at l at) ≡ some a → next_at l at ≡ at + 8
atom-next l at = found-next l at 8 (omega arith) only_atom atom-none only_atom-long

-- THE CONTENTS OF A RECORD

module _ (l : List ℕ) (at : ℕ) where
  inner-bytes : drop 4 (record_at l at) ≡ take (next_at l at - (at + 4)) (drop (at + 4) l)
  inner-bytes =
      ap (drop 4) (record-between l at) ∙ drop-take 4 (next_at l at - at) (drop at l) ∙ ap (take (next_at l at - at - 4)) (drop-drop 4 at l)
      ∙ ap (λ (m : ℕ). take m (drop (at + 4) l)) {x = next_at l at - at - 4} {y = next_at l at - (at + 4)} (omega arith)

  -- the atoms of a tuple are its contents
  pub tuple-walk : (k : ℕ) → record_kind (record_at l at) ≡ 36 → only_tuple k (record_at l at) ≡ decode_atoms k (part l (at + 4) (next_at l at - (at + 4)))
  unfolding part
  tuple-walk k e = only_tuple-read k (record_at l at) e ∙ ap (decode_atoms k) inner-bytes

  pub inner-record : next_at l (at + 4) ≡ next_at l at → record_at l (at + 4) ≡ drop 4 (record_at l at)
  inner-record e = record-between l (at + 4) ∙ ap (λ (m : ℕ). take (m - (at + 4)) (drop (at + 4) l)) e ∙ sym inner-bytes

  pub inner-none : (next_at l (at + 4) ≡ next_at l at → ⊥) → record_kind (drop 4 (record_at l at)) ≡ 0
  inner-none h = record_kind-none (drop 4 (record_at l at)) (λ four is. h (go (look l at) four is))
    where
      go : Stands l at → 4 ≤ length (drop 4 (record_at l at)) → val (part (drop 4 (record_at l at)) 0 2) ≡ length (drop 4 (record_at l at)) → next_at l (at + 4) ≡ next_at l at
      go (nothing b z n) four is = absurd (omega (arith, ap length b, length-drop 4 (record_at l at), four))
      go (whole n j s) four is =
          let w = record-tells l at n j s in
          let next = next-record l at n j s in
          let size : length (drop 4 (record_at l at)) ≡ next_at l at - (at + 4) = length-drop 4 (record_at l at) ∙ omega (arith, stands-length l at n j s, next) in
          let said : length_at l (at + 4) ≡ next_at l at - (at + 4) =
          sym (part_length l (at + 4) (next_at l at - (at + 4)) (omega (arith, size, four))) ∙ ap (λ (b : List ℕ). val (part b 0 2)) (sym inner-bytes) ∙ is ∙ size in
          next-record l (at + 4) _ _ (stands_here l (at + 4) (next_at l at - (at + 4)) (omega (arith, size, four)) said (omega (arith, w.inside, next, size, four))) ∙ omega (arith, size, four)

-- THE TERMS INSIDE A TERM

module _ (k : ℕ) (l : List ℕ) where
  pub let_all-walk : record_kind l ≡ 38
      → term_in k l ≡ bind (term_in k (take (next_at l 4 - 4) (drop 4 l))) (λ s. bind (term_in k (drop (next_at l 4) l)) (λ t. some (let_all s t)))
  let_all-walk e = go (look l 4)
    where
      least : 4 ≤ length l
      least = record_kind-least l 38 e (omega arith)

      none_here : (4 ≤ length_at l 4 → 4 + length_at l 4 ≤ length l → ⊥) → (t : Bool) → leb (4 + length_at l 4) (length l) ≡ t → term_in k l ≡ none
      none_here h true t =
          let inside = leb-true (4 + length_at l 4) (length l) t in
          let size : length (take (4 + length_at l 4 - 4) (drop 4 l)) ≡ 4 + length_at l 4 - 4 = length-take-le _ (drop 4 l) (omega (arith, length-drop 4 l, inside)) in
          let_all-two k l e (4 + length_at l 4) refl inside ∙ bind-none _ _ (term-none _ (record_kind-none _ (λ four is. h (omega (arith, four, size)) inside)) k)
      none_here h false t = let_all-none k l e (λ least inside. omega (arith, leb-false (4 + length_at l 4) (length l) t, inside))

      go : Stands l 4 → term_in k l ≡ bind (term_in k (take (next_at l 4 - 4) (drop 4 l))) (λ s. bind (term_in k (drop (next_at l 4) l)) (λ t. some (let_all s t)))
      go (whole n j s) = let_all-two k l e (next_at l 4) (next-record l 4 n j s ∙ ap (λ (m : ℕ). 4 + m) (sym (record-tells l 4 n j s).is-length)) (next-most l 4 least)
      go (nothing b z h) =
          none_here h (leb (4 + length_at l 4) (length l)) refl
          ∙ sym (bind-none _ _ (term-none _ (ap record_kind (sym (record-between l 4) ∙ b) ∙ empty-kind) k))

  pub let_one-walk : record_kind l ≡ 37
      → term_in k l ≡ bind (only_simple (record_at l 8)) (λ s. bind (term_in k (drop (next_at l 8) l)) (λ t. some (let_one (val (part l 4 4)) s t)))
  let_one-walk e = go (look l 8)
    where
      none_here : (4 ≤ length_at l 8 → 8 + length_at l 8 ≤ length l → ⊥) → (t u : Bool) → leb 12 (length l) ≡ t → leb (8 + length_at l 8) (length l) ≡ u → term_in k l ≡ none
      none_here h false u t₁ t₂ = let_one-none k l e (λ least inside. omega (arith, leb-false 12 (length l) t₁, least))
      none_here h true false t₁ t₂ = let_one-none k l e (λ least inside. omega (arith, leb-false (8 + length_at l 8) (length l) t₂, inside))
      none_here h true true t₁ t₂ =
          let inside = leb-true (8 + length_at l 8) (length l) t₂ in
          let size : length (take (8 + length_at l 8 - 8) (drop 8 l)) ≡ 8 + length_at l 8 - 8 = length-take-le _ (drop 8 l) (omega (arith, length-drop 8 l, inside)) in
          let_one-last k l e (8 + length_at l 8) refl (leb-true 12 (length l) t₁) inside
          ∙ bind-none _ _ (simple-none _ (record_kind-none _ (λ four is. h (omega (arith, four, size)) inside)))

      go : Stands l 8 → term_in k l ≡ bind (only_simple (record_at l 8)) (λ s. bind (term_in k (drop (next_at l 8) l)) (λ t. some (let_one (val (part l 4 4)) s t)))
      go (whole n j s) =
          let w = record-tells l 8 n j s in
          let next = next-record l 8 n j s in
          let_one-last k l e (next_at l 8) (next ∙ ap (λ (m : ℕ). 8 + m) (sym w.is-length)) (omega (arith, w.least, w.inside)) (omega (arith, w.inside, next))
          ∙ ap (λ (b : List ℕ). bind (only_simple b) (λ s. bind (term_in k (drop (next_at l 8) l)) (λ t. some (let_one (val (part l 4 4)) s t)))) (sym (record-between l 8))
      go (nothing b z h) =
          none_here h (leb 12 (length l)) (leb (8 + length_at l 8) (length l)) refl refl ∙ sym (bind-none _ _ (simple-none (record_at l 8) (ap record_kind b ∙ empty-kind)))

  -- nothing stands behind the variable
  pub let_one-stays : record_kind l ≡ 37 → next_at l 8 ≡ 8 → term_in k l ≡ none
  let_one-stays e h = let_one-walk e ∙ bind-none _ _ (simple-none (record_at l 8) (brief-kind (record_at l 8) (omega (arith, h, next-length l 8))))

  pub rec-walk : record_kind l ≡ 39
      → term_in k l
      ≡ bind (only_atom (record_at l 8)) (λ a.
      bind (only_tuple k (record_at l (next_at l 8))) (λ ys. bind (term_in k (drop (next_at l (next_at l 8)) l)) (λ t. some (rec (val (part l 4 4)) a ys t))))
  rec-walk e = go (leb (20 + 8 * k) (length l)) refl
    where
      after-count : Atom → ℕ → Option Term
      after-count a p = bind (only_tuple k (record_at l p)) (λ ys. bind (term_in k (drop (next_at l p) l)) (λ t. some (rec (val (part l 4 4)) a ys t)))

      -- the start tuple, where the count is an atom
      start : 20 + 8 * k ≤ length l → (a : Atom) → bind (only_tuple k (take (20 + 8 * k - 16) (drop 16 l))) (λ ys. bind (term_in k (drop (20 + 8 * k) l)) (λ t. some (rec (val (part l 4 4)) a ys t))) ≡ after-count a 16
      start h a =
          ap (λ (m : ℕ). bind (only_tuple k (take m (drop 16 l))) (λ ys. bind (term_in k (drop (20 + 8 * k) l)) (λ t. some (rec (val (part l 4 4)) a ys t)))) {x = 20 + 8 * k - 16} {y = 4 + 8 * k} (omega arith)
          ∙ ap (λ (o : Option (List Atom)). bind o (λ ys. bind (term_in k (drop (20 + 8 * k) l)) (λ t. some (rec (val (part l 4 4)) a ys t))))
          (next-front l 16 (4 + 8 * k) (omega arith) (only_tuple k) (λ x q. tuple-none x q k) (tuple-long k) (omega arith))
          ∙ bind-same (only_tuple k (record_at l 16)) _ _ λ ys q.
          ap (λ (p : ℕ). bind (term_in k (drop p l)) (λ t. some (rec (val (part l 4 4)) a ys t))) {x = 20 + 8 * k} {y = next_at l 16}
          (omega (arith, found-next l 16 (4 + 8 * k) (omega arith) (only_tuple k) (λ x q. tuple-none x q k) (tuple-long k) ys q))

      go : (t : Bool) → leb (20 + 8 * k) (length l) ≡ t → term_in k l ≡ bind (only_atom (record_at l 8)) (λ a. after-count a (next_at l 8))
      go true t =
          let h = leb-true (20 + 8 * k) (length l) t in
          rec-last k l e (20 + 8 * k) refl h
          ∙ ap (λ (o : Option Atom). bind o (λ a. bind (only_tuple k (take (20 + 8 * k - 16) (drop 16 l))) (λ ys. bind (term_in k (drop (20 + 8 * k) l)) (λ t. some (rec (val (part l 4 4)) a ys t)))))
          (next-front l 8 8 (omega arith) only_atom atom-none only_atom-long (omega (arith, h)))
          ∙ bind-same (only_atom (record_at l 8)) _ _ λ a q.
          start h a ∙ ap (after-count a) {x = 16} {y = next_at l 8} (sym (found-next l 8 8 (omega arith) only_atom atom-none only_atom-long a q))
      go false t =
          let h = leb-false (20 + 8 * k) (length l) t in
          rec-none k l e (omega (arith, h))
          ∙ sym (none-unless _ λ u q.
          bind_inv (only_atom (record_at l 8)) _ u q λ a q₁ f₁.
          bind_inv (only_tuple k (record_at l (next_at l 8))) _ u f₁ λ ys q₂ f₂.
          omega (arith, h, found-next l 8 8 (omega arith) only_atom atom-none only_atom-long a q₁, found_inside l (next_at l 8) (4 + 8 * k) (omega arith) (only_tuple k) (λ x q. tuple-none x q k) (tuple-long k) ys q₂))

  -- no count, or no start tuple
  pub rec-stays : record_kind l ≡ 39 → (next_at l 8 ≡ 16 → (next_at l (next_at l 8) ≡ next_at l 8 → ⊥) → ⊥) → term_in k l ≡ none
  rec-stays e h = none-unless (term_in k l) λ t q.
      bind_inv (only_atom (record_at l 8)) _ t (sym (rec-walk e) ∙ q) λ a q₁ f₁.
      bind_inv (only_tuple k (record_at l (next_at l 8))) _ t f₁ λ ys q₂ f₂.
      h (atom-next l 8 a q₁) (λ z. omega (arith, z, found-next l (next_at l 8) (4 + 8 * k) (omega arith) (only_tuple k) (λ x q. tuple-none x q k) (tuple-long k) ys q₂))
