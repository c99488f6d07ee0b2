-- Terms met in the order of their bytes: a scan steps over a term's own bytes and then stands at the terms inside it.
use Rattle.std.specs.Prelude.{◌*◌, ◌+◌, ℕ, ◌≡◌, List, [], ◌∷◌, length}
use Rattle.place.specs.TermView.{TermAt}
use Rattle.record.specs.Term.{simple_size, term_size}
use Rattle.rules.specs.Syntax.{Term, let_all, let_one, rec, tuple}

-- The terms stand one after the other from index p up to index `to`.
pub data TermsUpTo (l : List ℕ) (k to : ℕ) : ℕ → List Term → Type 0 where
  ended : {p : ℕ} → p ≡ to → TermsUpTo l k to p []
  followed : {p : ℕ} {t : Term} {ts : List Term} → TermAt l p k t → TermsUpTo l k to (p + (4 + term_size t)) ts → TermsUpTo l k to p (t ∷ ts)

-- The terms directly inside a term, in the order of the bytes.
unfoldable pub inner : Term → List Term
inner (tuple ys) = []
inner (let_one x s t) = t ∷ []
inner (let_all s t) = s ∷ t ∷ []
inner (rec x a ys t) = t ∷ []

-- The bytes of a term that belong to no term inside it: they stand in front of those terms.
unfoldable pub own_size : Term → ℕ
own_size (tuple ys) = 4 + 8 * length ys
own_size (let_one x s t) = 8 + simple_size s
own_size (let_all s t) = 4
own_size (rec x a ys t) = 20 + 8 * length ys
