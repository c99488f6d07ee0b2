-- What stands first in a block that is known to stand at an index, by the kind that is read there (01 "Records").
use Rattle.std.specs.Prelude.{◌+◌, ◌<◌, ◌≤◌, ℕ, ◌≡◌, List, length}
use Rattle.buffer.specs.LittleEndian.{le, val}
use Rattle.buffer.specs.Slice.{part}
use Rattle.rules.specs.Syntax.{Block, Bound, Expr, append, assign, loop, nest}
use Rattle.record.specs.Program.{BlockWords, block_size, bound_kind, bound_number, encode_block, encode_bound, encode_expr, expr_kind, expr_number}
use Rattle.place.specs.At.{At}

-- The commands of b stand at index p, one record after the other; their numbers take 4 bytes and their lengths 2.
pub record BlockAt (l : List ℕ) (p : ℕ) (b : Block) : Type 0 where
  pub here : At l p (encode_block b)
  pub words : BlockWords b
  pub small : block_size b < 65536

-- A block stands first. `flat` has its commands and those behind it as one block, for a scan that steps into heads.
pub record NestView (l : List ℕ) (p : ℕ) (b : Block) : Type 0 where
  pub body : Block
  pub rest : Block
  pub is : b ≡ nest body rest
  pub size : block_size b ≡ 4 + block_size body + block_size rest
  pub room : p + block_size b ≤ length l
  pub kind : val (part l (p + 2) 2) ≡ 1
  pub stored : val (part l p 2) ≡ 4 + block_size body
  pub inside : BlockAt l (p + 4) body
  pub after : BlockAt l (p + (4 + block_size body)) rest
  pub flat : BlockAt l (p + 4) (append body rest)

-- An assignment stands first.
pub record AssignView (l : List ℕ) (p : ℕ) (b : Block) : Type 0 where
  pub variable : ℕ
  pub expr : Expr
  pub rest : Block
  pub is : b ≡ assign variable expr rest
  pub size : block_size b ≡ 16 + block_size rest
  pub room : p + block_size b ≤ length l
  pub kind : val (part l (p + 2) 2) ≡ 2
  pub stored : val (part l p 2) ≡ 16
  pub variable-read : val (part l (p + 4) 4) ≡ variable
  pub kind-read : val (part l (p + 10) 2) ≡ expr_kind expr
  pub number_read : val (part l (p + 12) 4) ≡ expr_number expr
  pub variable-bytes : part l (p + 4) 4 ≡ le 4 variable
  pub number-bytes : part l (p + 12) 4 ≡ le 4 (expr_number expr)
  pub expr-at : At l (p + 8) (encode_expr expr)
  pub after : BlockAt l (p + 16) rest

-- A loop stands first. From its block's record on it reads as that block and what is behind the loop.
pub record LoopView (l : List ℕ) (p : ℕ) (b : Block) : Type 0 where
  pub variable : ℕ
  pub bound : Bound
  pub body : Block
  pub rest : Block
  pub is : b ≡ loop variable bound body rest
  pub size : block_size b ≡ 20 + block_size body + block_size rest
  pub room : p + block_size b ≤ length l
  pub kind : val (part l (p + 2) 2) ≡ 3
  pub stored : val (part l p 2) ≡ 20 + block_size body
  pub variable-read : val (part l (p + 4) 4) ≡ variable
  pub kind-read : val (part l (p + 10) 2) ≡ bound_kind bound
  pub number_read : val (part l (p + 12) 4) ≡ bound_number bound
  pub variable-bytes : part l (p + 4) 4 ≡ le 4 variable
  pub number-bytes : part l (p + 12) 4 ≡ le 4 (bound_number bound)
  pub bound_at : At l (p + 8) (encode_bound bound)
  pub block : BlockAt l (p + 16) (nest body rest)
  pub block-stored : val (part l (p + 16) 2) ≡ 4 + block_size body
  pub inside : BlockAt l (p + 20) body
  pub after : BlockAt l (p + (20 + block_size body)) rest
  pub flat : BlockAt l (p + 20) (append body rest)

-- What stands first, by its kind.
pub data CommandView (l : List ℕ) (p : ℕ) (b : Block) : ℕ → Type 0 where
  first_nest : NestView l p b → CommandView l p b 1
  first_assign : AssignView l p b → CommandView l p b 2
  first_loop : LoopView l p b → CommandView l p b 3
