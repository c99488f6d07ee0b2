-- A term inside the first terms of let-alls: where the reducer acts (01 "Reducer").
use Rattle.std.specs.Prelude.{◌*◌, ◌+◌, ◌<◌, ℕ, ◌≡◌, ◌&&◌, Bool, not, List, [], ◌∷◌, eqb, length}
use Rattle.buffer.specs.LittleEndian.{val}
use Rattle.buffer.specs.Slice.{part}
use Rattle.rules.specs.Syntax.{Atom, Simple, Term, let_all, let_one, rec, tuple}
use Rattle.record.specs.Term.{encode_term_record, kind_of_term, term_size}
use Rattle.place.specs.Nesting.{Nesting, plug}

-- A let-all: its record has its last term in it too.
abbrev pub terms : Nesting Term
terms = record { wrap = let_all; kind = 38; encode = encode_term_record; size = λ t. 4 + term_size t; inside = λ u. 4 + term_size u }

-- A term that the rules act on, and not on its first term: a let-one, a let-all of a tuple, a rec.
pub data Redex : Term → Type 0 where
  redex_let_one : {x : ℕ} {s : Simple} {t : Term} → Redex (let_one x s t)
  redex_let_all : {l : List Atom} {u : Term} → Redex (let_all (tuple l) u)
  redex_rec : {x : ℕ} {a : Atom} {l : List Atom} {t : Term} → Redex (rec x a l t)

-- The path to the redex.
unfoldable pub term_path : Term → List Term
term_path (tuple l) = []
term_path (let_one x s t) = []
term_path (rec x a l t) = []
term_path (let_all (tuple l) u) = []
term_path (let_all (let_one x s t) u) = u ∷ term_path (let_one x s t)
term_path (let_all (let_all s t) u) = u ∷ term_path (let_all s t)
term_path (let_all (rec x a l t) u) = u ∷ term_path (rec x a l t)

-- The redex; of a tuple, which has none, the tuple.
unfoldable pub redex : Term → Term
redex (tuple l) = tuple l
redex (let_one x s t) = let_one x s t
redex (rec x a l t) = rec x a l t
redex (let_all (tuple l) u) = let_all (tuple l) u
redex (let_all (let_one x s t) u) = redex (let_one x s t)
redex (let_all (let_all s t) u) = redex (let_all s t)
redex (let_all (rec x a l t) u) = redex (rec x a l t)

-- THE WALK to it, head by head

-- A let-all whose first term is no tuple begins at p: what a turn of the walk tests.
unfoldable pub enters_at : List ℕ → ℕ → Bool
enters_at l p = eqb (val (part l (p + 2) 2)) 38 && not (eqb (val (part l (p + 6) 2)) 36)

-- The walk through the term t, which stands at o, has come to p: a term stands there, and behind the first turn no tuple.
pub record TermWalk (t : Term) (o p : ℕ) : Type 0 where
  pub passed : List Term
  pub here : Term
  pub whole : t ≡ plug terms passed here
  pub place : o + 4 * length passed ≡ p
  pub deep : 0 < length passed → kind_of_term here ≡ 36 → ⊥
