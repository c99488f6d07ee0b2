-- Programs as bytes: the encoding of a block, and the decoder (01 "Records", kinds 1 to 3 and 16 to 19).
use Rattle.std.specs.Prelude.{◌+◌, ◌<◌, suc, zero, ℕ, ◌++◌, List, [], eqb, length}
use Rattle.std.proofs.Math.Option.{Option, none, some}
use Rattle.buffer.specs.LittleEndian.{le}
use Rattle.rules.specs.Syntax.{Block, Bound, Expr, assign, dec, empty, inc, lit, loop, nest, upto, upto_var, var}
use Rattle.record.specs.Fix.{fixed}
use Rattle.record.specs.Reading.{Got, at_end, bind, encode_leaf, leaf, pick, sub, then, word}
use Rattle.record.specs.Record.{Split, bad, encode_record, end, part, split}

-- EXPRESSIONS AND BOUNDS: kind, and value or variable number

-- The kind of an expression's record.
unfoldable pub expr_kind : Expr → ℕ
expr_kind (lit v) = 16
expr_kind (var v) = 17
expr_kind (inc v) = 18
expr_kind (dec v) = 19

-- The value or variable number that an expression holds.
unfoldable pub expr_number : Expr → ℕ
expr_number (lit v) = v
expr_number (var v) = v
expr_number (inc v) = v
expr_number (dec v) = v

-- The kind of a bound's record.
unfoldable pub bound_kind : Bound → ℕ
bound_kind (upto v) = 16
bound_kind (upto_var v) = 17

-- The value or variable number that a bound holds.
unfoldable pub bound_number : Bound → ℕ
bound_number (upto v) = v
bound_number (upto_var v) = v

-- The expression of this kind with this value or variable number, if the kind is an expression's.
unfoldable pub expr_from : ℕ → ℕ → Option Expr
expr_from k v = pick (eqb k 16) (some (lit v)) (pick (eqb k 17) (some (var v)) (pick (eqb k 18) (some (inc v)) (pick (eqb k 19) (some (dec v)) none)))

-- The same of a bound.
unfoldable pub bound_from : ℕ → ℕ → Option Bound
bound_from k v = pick (eqb k 16) (some (upto v)) (pick (eqb k 17) (some (upto_var v)) none)

-- The record of an expression.
abbrev pub encode_expr : Expr → List ℕ
encode_expr = encode_leaf expr_kind expr_number expr_from

-- The record of a bound.
abbrev pub encode_bound : Bound → List ℕ
encode_bound = encode_leaf bound_kind bound_number bound_from

-- The expression whose record stands first, and what follows it.
abbrev pub read_expr : List ℕ → Got Expr
read_expr = leaf expr_kind expr_number expr_from

-- The same of a bound.
abbrev pub read_bound : List ℕ → Got Bound
read_bound = leaf bound_kind bound_number bound_from

-- BLOCKS

-- The commands' records one after the other: the contents of the block's record.
unfoldable pub encode_block : Block → List ℕ
encode_block empty = []
encode_block (assign x e r) = encode_record 2 (le 4 x ++ encode_expr e) ++ encode_block r
encode_block (loop x n p r) = encode_record 3 (le 4 x ++ (encode_bound n ++ encode_record 1 (encode_block p))) ++ encode_block r
encode_block (nest p r) = encode_record 1 (encode_block p) ++ encode_block r

-- The length of that.
unfoldable pub block_size : Block → ℕ
block_size empty = 0
block_size (assign x e r) = 16 + block_size r
block_size (loop x n p r) = 20 + block_size p + block_size r
block_size (nest p r) = 4 + block_size p + block_size r

-- Every value and variable number takes 4 bytes.
abbrev pub BlockWords : Block → Type 0
BlockWords empty = Unit {0}
BlockWords (assign x e r) = (x < 4294967296) × (expr_number e < 4294967296) × BlockWords r
BlockWords (loop x n p r) = (x < 4294967296) × (bound_number n < 4294967296) × BlockWords p × BlockWords r
BlockWords (nest p r) = BlockWords p × BlockWords r

-- THE DECODER

-- What a kind is taken for where a command stands: a block, an assignment, a loop, or no command.
pub data CommandKind : ℕ → Type 0 where
  is_block : CommandKind 1
  is_assign : CommandKind 2
  is_loop : CommandKind 3
  not_command : {k : ℕ} → CommandKind k

-- What each kind is taken for.
unfoldable pub command_kind : (k : ℕ) → CommandKind k
command_kind zero = not_command
command_kind (suc zero) = is_block
command_kind (suc (suc zero)) = is_assign
command_kind (suc (suc (suc zero))) = is_loop
command_kind (suc (suc (suc (suc k)))) = not_command

module _ (D : List ℕ → Option Block) where
  -- By what the kind was taken for: the command with these contents, and then the rest of its block.
  unfoldable pub decode_command : {k : ℕ} → CommandKind k → List ℕ → List ℕ → Option Block
  decode_command is_block b r = bind (D b) (λ p. bind (D r) (λ q. some (nest p q)))
  decode_command is_assign b r = then (word b) (λ x b₁. then (read_expr b₁) (λ e b₂. at_end b₂ (bind (D r) (λ q. some (assign x e q)))))
  decode_command is_loop b r =
      then (word b) (λ x b₁. then (read_bound b₁) (λ n b₂. then (sub 1 b₂) (λ c b₃. at_end b₃ (bind (D c) (λ p. bind (D r) (λ q. some (loop x n p q)))))))
  decode_command not_command b r = none

  -- By what stands first: the empty block where nothing does, no block where no record does, or else the first command.
  unfoldable pub decode_block_part : Split → Option Block
  decode_block_part end = some empty
  decode_block_part bad = none
  decode_block_part (part k b r) = decode_command (command_kind k) b r

  -- One level of the decoder: D is the decoder for shorter lists.
  unfoldable pub decode_block_step : List ℕ → Option Block
  decode_block_step bs = decode_block_part (split bs)

-- The block whose contents these bytes are, if there is one.
unfoldable pub decode_block : List ℕ → Option Block
decode_block bs = fixed length decode_block_step bs
