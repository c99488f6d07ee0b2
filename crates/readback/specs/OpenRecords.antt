-- The blocks and loops that read-back has begun and not ended. Their lengths are known only at their ends, and until then each
-- head holds, in the place of the length, the index of the head around it.
use Rattle.std.specs.Prelude.{◌+◌, ◌-◌, ◌≤◌, ℕ, ◌≡◌, Bool, false, true, ◌++◌, List, [], ◌∷◌, eqb, length}
use Rattle.buffer.specs.LittleEndian.{le, val}
use Rattle.buffer.specs.Slice.{part, put}
use Rattle.place.specs.Heads.{record_head}
use Rattle.record.specs.Program.{block_size, encode_block, encode_bound, encode_expr}
use Rattle.rules.specs.Syntax.{Block, Bound, Expr, Term}
use Rattle.rules.specs.Translation.{translate}
use Rattle.recognition.specs.Scan.{TermsUpTo}

-- An assignment (01 "Records").
unfoldable pub assign_bytes : ℕ → Expr → List ℕ
assign_bytes x e = record_head 2 16 ++ (le 4 x ++ encode_expr e)

-- A loop up to its commands, with n for its length and m for that of the block inside it (01 "Records").
unfoldable pub loop_bytes : ℕ → Bound → ℕ → ℕ → List ℕ
loop_bytes x b n m = record_head 3 n ++ (le 4 x ++ (encode_bound b ++ record_head 1 m))

-- How many bytes stand before the commands, by whether the record is a loop.
unfoldable pub opening : Bool → ℕ
opening false = 4
opening true = 20

-- The output l after the record with its head at index h is ended at index o: its length is stored, and a loop's block's too.
unfoldable pub closed : Bool → List ℕ → ℕ → ℕ → List ℕ
closed false l h o = put l h (le 2 (o - h))
closed true l h o = put (put l h (le 2 (o - h))) (h + 16) (le 2 (o - h - 16))

-- The records, the innermost first: where its head is, whether it is a loop, and the commands still to come in it.
pub data OpenRecords : Type 0 where
  all_ended : OpenRecords
  opened : ℕ → Bool → Block → OpenRecords → OpenRecords

-- The translations of what is still to come.
unfoldable pub terms_of : ℕ → OpenRecords → List Term
terms_of k all_ended = []
terms_of k (opened h f b ps) = translate k b ∷ terms_of k ps

-- The output l after all that is still to come is written from index o on, and every record ended.
unfoldable pub finish : List ℕ → ℕ → OpenRecords → List ℕ
finish l o all_ended = l
finish l o (opened h f b ps) = finish (closed f (put l o (encode_block b)) h (o + block_size b)) (o + block_size b) ps

-- Where that ends.
unfoldable pub end_of : ℕ → OpenRecords → ℕ
end_of o all_ended = o
end_of o (opened h f b ps) = end_of (o + block_size b) ps

-- The heads stand in l before index o, the innermost at index p, and each holds the index of the one around it.
abbrev pub Linked : List ℕ → ℕ → ℕ → OpenRecords → Type 0
Linked l o p all_ended = Unit {0}
Linked l o p (opened h f b ps) = (p ≡ h) × (h + opening f ≤ o) × (eqb (val (part l (h + 2) 2)) 3 ≡ f) × Linked l h (val (part l h 2)) ps

-- From index p up to `to` stands the translation of the block b, and the block's record has room in the output from index p on.
pub record BlockFits (src : List ℕ) (p to k : ℕ) (out : List ℕ) (b : Block) : Type 0 where
  pub here : TermsUpTo src k to p (translate k b ∷ [])
  pub room : p + (4 + block_size b) ≤ length out
