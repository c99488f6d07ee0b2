-- Laws of a scan: what it stands at after a term's own bytes, and how many these are by the kind read.
use Prim.Native.Nat.{◌*◌, ◌+◌, ◌<◌, ◌≤◌, ℕ}
use mathlib.Core.Path.{ap, refl, subst, sym, ◌∙◌, ◌≡◌}
use mathlib.Core.Logic.{inl, inr, ◌⊎◌}
use mathlib.Core.List.{◌++◌, List, [], ◌∷◌}
use lib.ListN.{length}
use native.Mathlib.Omega.{arith}
use Rattle.buffer.specs.LittleEndian.{val}
use Rattle.buffer.specs.Slice.{part}
use Rattle.place.specs.TermView.{TermAt, TermView, is_let_all_at, is_let_one_at, is_rec_at, is_tuple_at}
use Rattle.record.specs.declared.Header.{Header}
use Rattle.record.specs.declared.kind.Kind.{Kind}
use Rattle.record.specs.declared.kind.Kind.TheVariants.{Numeral, Reference}
use Rattle.record.specs.Kind.{kind_named}
use Rattle.record.proofs.KindLaws.{named-number, not-number}
use Rattle.record.specs.Header.{contents_at}
use Rattle.record.specs.Holding.{TermIn}
use Rattle.record.specs.Term.{simple_size, term_size}
use Rattle.rules.specs.FreeVariables.{Vars}
use Rattle.rules.specs.Syntax.{Term, let_all, let_one, rec, tuple}
use Rattle.place.proofs.WholeLaws.{term-from, term-used}
use Rattle.place.proofs.TermBytesLaws.{simple-high, simple-low}
use Rattle.place.proofs.TermViewLaws.{as-let_all, as-let_one, as-rec, as-tuple, simple-kind, term-index, term-kind, term-room, term-view}
use Rattle.recognition.specs.Scan.{TermsUpTo, ended, followed, inner, own_size}

-- THE ROW OF TERMS THAT ARE LEFT

pub terms-index : {l : List ℕ} {k to p q : ℕ} {ts : List Term} → TermsUpTo l k to p ts → p ≡ q → TermsUpTo l k to q ts
terms-index {l} {k} {to} {p} {q} {ts} h e = subst (λ (n : ℕ). TermsUpTo l k to n ts) e h

pub terms-order : {l : List ℕ} {k to p : ℕ} {ts : List Term} → TermsUpTo l k to p ts → p ≤ to
terms-order (ended e) = omega arith
terms-order (followed h r) = omega (arith, terms-order r)

pub terms-end : {l : List ℕ} {k to p : ℕ} {ts : List Term} → TermsUpTo l k to p ts → to ≤ p → ts ≡ []
terms-end (ended e) b = refl
terms-end (followed h r) b = absurd (omega (arith, terms-order r))

-- no term is left exactly at the end
pub terms-none : {l : List ℕ} {k to p : ℕ} → TermsUpTo l k to p [] → p ≡ to
terms-none (ended e) = e

pub terms-some : {l : List ℕ} {k to p : ℕ} {t : Term} {ts : List Term} → TermsUpTo l k to p (t ∷ ts) → p < to
terms-some (followed h r) = omega (arith, terms-order r)

-- A scan that has not come to the end stands at a term.
pub record First (l : List ℕ) (k to p : ℕ) (ts : List Term) : Type 0 where
  pub term : Term
  pub rest : List Term
  pub is : ts ≡ term ∷ rest
  pub here : TermAt l p k term
  pub after : TermsUpTo l k to (p + own_size term) (inner term ++ rest)

-- what stands behind a term's own bytes
inside : {l : List ℕ} {k to p : ℕ} {t : Term} {ts : List Term} → TermAt l p k t → TermsUpTo l k to (p + (4 + term_size t)) ts
    → TermsUpTo l k to (p + own_size t) (inner t ++ ts)
unfolding inner own_size
inside {l} {k} {to} {p} {t} {ts} h r = go (val (part l (p + 2) 2)) (term-view h)
  where
    moved : (n : ℕ) (us : List Term) → own_size t ≡ n → inner t ++ ts ≡ us → TermsUpTo l k to (p + n) us → TermsUpTo l k to (p + own_size t) (inner t ++ ts)
    moved n us e f s = rw (e, f) s

    go : (n : ℕ) → TermView l p k t n → TermsUpTo l k to (p + own_size t) (inner t ++ ts)
    go _ (is_tuple_at v) =
        moved (4 + 8 * length v.atoms) ts (ap own_size v.is) (ap (λ (u : Term). inner u ++ ts) v.is) (terms-index r (omega (arith, v.size, v.count)))
    go _ (is_let_one_at v) =
        moved (8 + simple_size v.bound) (v.last ∷ ts) (ap own_size v.is) (ap (λ (u : Term). inner u ++ ts) v.is)
        (followed v.last-at (terms-index r (omega (arith, v.size))))
    go _ (is_let_all_at v) =
        moved 4 (v.first ∷ v.last ∷ ts) (ap own_size v.is) (ap (λ (u : Term). inner u ++ ts) v.is)
        (followed v.first-at (followed (term-index v.last-at (omega arith)) (terms-index r (omega (arith, v.size)))))
    go _ (is_rec_at v) =
        moved (20 + 8 * length v.start) (v.body ∷ ts) (ap own_size v.is) (ap (λ (u : Term). inner u ++ ts) v.is)
        (followed (term-index v.body_at (omega (arith, v.start-length))) (terms-index r (omega (arith, v.size, v.start-length))))

pub terms-step : {l : List ℕ} {k to p : ℕ} {t : Term} {ts : List Term} → TermsUpTo l k to p (t ∷ ts) → TermAt l p k t × TermsUpTo l k to (p + own_size t) (inner t ++ ts)
terms-step (followed h r) = (h, inside h r)

pub terms-first : {l : List ℕ} {k to p : ℕ} {ts : List Term} → TermsUpTo l k to p ts → p < to → First l k to p ts
terms-first (ended e) b = absurd (omega arith)
terms-first (followed {p} {t} {ts} h r) b = record { term = t; rest = ts; is = refl; here = h; after = inside h r }

-- one term is a row
pub terms-one : {l : List ℕ} {k to p : ℕ} {t : Term} → TermAt l p k t → p + (4 + term_size t) ≡ to → TermsUpTo l k to p (t ∷ [])
terms-one h e = followed h (ended e)

-- and so is the term of a record
pub terms-record : {S : Vars} {h : Header} {t : Term} {l : List ℕ} {used n : ℕ} → TermIn S h t l used → length l ≤ 16384 → n ≡ contents_at h → TermsUpTo l h.k used n (t ∷ [])
terms-record p b e = terms-one (term-from p b e) (omega (arith, term-used p))

-- a term has at least its length and its kind
pub own-some : (t : Term) → 4 ≤ own_size t
unfolding own_size
own-some (tuple ys) = omega arith
own-some (let_one x s u) = omega arith
own-some (let_all s u) = omega arith
own-some (rec x a ys u) = omega arith

-- a step forward, and not past the end
pub terms-pass : {l : List ℕ} {k to p : ℕ} {ts : List Term} → TermsUpTo l k to p ts → p < to → (n : ℕ) → ((t : Term) → TermAt l p k t → n ≡ own_size t)
    → (0 < n) × (p + n ≤ to)
terms-pass h b n e =
    let f = terms-first h b in
    let q : n ≡ own_size f.term = e f.term f.here in
    omega (arith, own-some f.term, terms-order f.after)

-- THE KIND OF WHAT A LET-ONE BINDS

-- an atom's
pub atom-low : {n : ℕ} {r : Kind} → r ≡ kind_named n → (r ≡ Numeral) ⊎ (r ≡ Reference) → n < 34
atom-low {n} e (inl f) = let d : n ≡ 32 = named-number (sym f ∙ e) in omega arith
atom-low {n} e (inr f) = let d : n ≡ 33 = named-number (sym f ∙ e) in omega arith

-- that of succ or pred
pub of-high : {l : List ℕ} {p k : ℕ} {t : Term} {r : Kind} → TermAt l p k t → val (part l (p + 2) 2) ≡ 37 → r ≡ kind_named (val (part l (p + 10) 2))
    → (r ≡ Numeral → ⊥) → (r ≡ Reference → ⊥) → 34 ≤ val (part l (p + 10) 2)
of-high h e f a b = omega (arith, simple-kind h e, not-number Numeral tt f a, not-number Reference tt f b)

-- HOW MANY BYTES A TERM HAS OF ITS OWN

module _ {l : List ℕ} {p k : ℕ} {t : Term} (h : TermAt l p k t) where
  pub own-tuple : val (part l (p + 2) 2) ≡ 36 → own_size t ≡ 4 + 8 * k
  unfolding own_size
  own-tuple e = let v = as-tuple h e in ap own_size v.is ∙ ap (λ (n : ℕ). 4 + 8 * n) v.count

  module _ (e : val (part l (p + 2) 2) ≡ 37) where
    -- the kind of what a let-one binds is read inside the buffer
    pub own_room : p + 12 ≤ length l
    own_room = let v = as-let_one h e in omega (arith, term-room v.last-at)

    pub own-let_one : own_size t ≡ 8 + simple_size (as-let_one h e).bound
    unfolding own_size
    own-let_one = ap own_size (as-let_one h e).is

    pub own-atom : val (part l (p + 10) 2) < 34 → own_size t ≡ 16
    own-atom b = let v = as-let_one h e in own-let_one ∙ ap (λ (n : ℕ). 8 + n) (simple-low v.bound (rw v.kind-read at b))

    pub own_of : 34 ≤ val (part l (p + 10) 2) → own_size t ≡ 20
    own_of b = let v = as-let_one h e in own-let_one ∙ ap (λ (n : ℕ). 8 + n) (simple-high v.bound (rw v.kind-read at b))

  pub own-let_all : val (part l (p + 2) 2) ≡ 38 → own_size t ≡ 4
  unfolding own_size
  own-let_all e = ap own_size (as-let_all h e).is

  pub own-rec : val (part l (p + 2) 2) ≡ 39 → own_size t ≡ 20 + 8 * k
  unfolding own_size
  own-rec e = let v = as-rec h e in ap own_size v.is ∙ ap (λ (n : ℕ). 20 + 8 * n) v.start-length

  -- the kind is read inside the buffer
  pub kind-room : p + 4 ≤ length l
  kind-room = omega (arith, term-room h)

  -- what is left of the four kinds
  pub kind-left : (val (part l (p + 2) 2) ≡ 36 → ⊥) → (val (part l (p + 2) 2) ≡ 37 → ⊥) → (val (part l (p + 2) 2) ≡ 38 → ⊥) → val (part l (p + 2) 2) ≡ 39
  kind-left a b c = omega (arith, term-kind h)
