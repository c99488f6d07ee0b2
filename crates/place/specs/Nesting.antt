-- A tree inside the first of others, at any depth, and its bytes among theirs: of blocks and of terms alike.
use Rattle.std.specs.Prelude.{◌+◌, ◌≤◌, ℕ, ◌≡◌, ◌++◌, List, [], ◌∷◌, length}
use Rattle.place.specs.Heads.{heads_around, record_head}

-- How a tree stands first in another: `wrap t r` is t inside, and r behind it. `inside` is how many bytes of r the record
-- around t has in it too.
pub record Nesting (T : Type 0) : Type 0 where
  pub wrap : T → T → T
  pub kind : ℕ
  pub encode : T → List ℕ
  pub size : T → ℕ
  pub inside : T → ℕ

-- Its bytes are so: a head of the kind, t and r.
pub record Nests {T : Type 0} (N : Nesting T) : Type 0 where
  pub length-encode : (t : T) → length (N.encode t) ≡ N.size t
  pub encode-wrap : (t r : T) → N.encode (N.wrap t r) ≡ record_head N.kind (4 + N.size t + N.inside r) ++ (N.encode t ++ N.encode r)
  pub inside-le : (r : T) → N.inside r ≤ N.size r

-- A PATH holds what stands behind at each level, the outermost first.
module _ {T : Type 0} (N : Nesting T) where
  -- The tree t at the end of a path.
  unfoldable pub plug : List T → T → T
  plug [] t = t
  plug (r ∷ p) t = N.wrap (plug p t) r

  -- How many bytes a path has around what stands at its end.
  unfoldable pub around : List T → ℕ
  around [] = 0
  around (r ∷ p) = 4 + around p + N.size r

  -- How many bytes each of its records has besides what stands at its end.
  unfoldable pub beside : List T → List ℕ
  beside [] = []
  beside (r ∷ p) = (4 + around p + N.inside r) ∷ beside p

  -- The heads of its records around n bytes.
  unfoldable pub heads : List T → ℕ → List ℕ
  heads p n = heads_around N.kind (beside p) n

  -- What follows those n bytes.
  unfoldable pub rests : List T → List ℕ
  rests [] = []
  rests (r ∷ p) = rests p ++ N.encode r
