-- What the translation of a command begins with, by the numbers read at the command's index p.
use Rattle.std.specs.Prelude.{◌*◌, ◌+◌, ℕ, Bool, false, true, ◌++◌, List, eqb, ltb}
use Rattle.buffer.specs.LittleEndian.{le}
use Rattle.record.specs.Front.{u16, u32}
use Rattle.place.specs.Edit.{lead, leaf_bytes}
use Rattle.place.specs.Heads.{record_head}
use Rattle.translator.specs.RowTranslation.{all_bytes}

-- What a let-one of an atom, or a rec, of n bytes begins with, of an assignment or a loop: the atom's kind is 16 higher in a
-- term.
unfoldable pub lead_of : ℕ → ℕ → List ℕ → ℕ → List ℕ
lead_of kind n l p = lead kind n (u32 l (p + 4)) (u16 l (p + 10) + 16) (u32 l (p + 12))

-- An assignment, by whether its expression is a literal or a variable: how many bytes a let-one has before its last term.
unfoldable pub let_one_size : Bool → ℕ
let_one_size true = 16
let_one_size false = 20

-- A let-one of n bytes before its last term, by whether it binds an atom; else it binds succ or pred of one.
unfoldable pub let_one_head_if : Bool → List ℕ → ℕ → ℕ → List ℕ
let_one_head_if true l p n = lead_of 37 n l p
let_one_head_if false l p n = record_head 37 n ++ (le 4 (u32 l (p + 4)) ++ (record_head (u16 l (p + 10) + 16) 12 ++ leaf_bytes 33 (u32 l (p + 12))))

-- The same of the assignment at index p, by the kind of its expression.
unfoldable pub let_one_head : List ℕ → ℕ → ℕ → List ℕ
let_one_head l p n = let_one_head_if (ltb (u16 l (p + 10)) 18) l p n

-- A block or a loop, by whether it is a loop: how many bytes it has before its inner row.
unfoldable pub opening : Bool → ℕ
opening true = 20
opening false = 4

-- How many bytes a let-all has before the translation of that row.
unfoldable pub let_all_size : ℕ → Bool → ℕ
let_all_size k true = 24 + 8 * k
let_all_size k false = 4

-- A let-all of n bytes before the translation of the inner row, which has m bytes: of a loop the rec is begun too.
unfoldable pub let_all_head_if : Bool → ℕ → List ℕ → ℕ → ℕ → ℕ → List ℕ
let_all_head_if true k l p n m = record_head 38 n ++ (lead_of 39 (20 + 8 * k + m) l p ++ all_bytes k)
let_all_head_if false k l p n m = record_head 38 n

-- The same of the command at index p, by its kind: a loop, else a block.
unfoldable pub let_all_head : ℕ → List ℕ → ℕ → ℕ → ℕ → List ℕ
let_all_head k l p n m = let_all_head_if (eqb (u16 l (p + 2)) 3) k l p n m
