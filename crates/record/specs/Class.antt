-- The class of a record by its kind (01 "Records"; 02 C-17 joins 9 and 41): each class lists its kinds.
use Rattle.std.specs.Prelude.{ℕ, Bool, false, true, ◌||◌, List, [], ◌∷◌, eqb}
use Rattle.record.specs.declared.Class.{Class}
use Rattle.record.specs.declared.Class.TheVariants.{Expression, Malformed, Program, Term}

-- 7 program (01's tariff), 9 program of edition 2, 1 block, 2 assignment, 3 loop.
unfoldable pub program_kinds : List ℕ
program_kinds = 7 ∷ 9 ∷ 1 ∷ 2 ∷ 3 ∷ []

-- 16 literal, 17 variable, 18 variable plus one, 19 variable minus one.
unfoldable pub expression_kinds : List ℕ
expression_kinds = 16 ∷ 17 ∷ 18 ∷ 19 ∷ []

-- 32 numeral, 33 variable, 34 succ, 35 pred, 36 tuple, 37 let-one, 38 let-all, 39 rec, 40 term header, 41 the same
-- of edition 2.
unfoldable pub term_kinds : List ℕ
term_kinds = 32 ∷ 33 ∷ 34 ∷ 35 ∷ 36 ∷ 37 ∷ 38 ∷ 39 ∷ 40 ∷ 41 ∷ []

-- The number is one of the list.
unfoldable pub among : List ℕ → ℕ → Bool
among [] k = false
among (x ∷ xs) k = eqb k x || among xs k

-- By which list has the kind: that of programs, of expressions, of terms, or none.
unfoldable pub class_by : Bool → Bool → Bool → Class
class_by true e t = Program
class_by false true t = Expression
class_by false false true = Term
class_by false false false = Malformed

-- The class whose list has the kind; a kind of no list is malformed.
unfoldable pub class_of : ℕ → Class
class_of kind = class_by (among program_kinds kind) (among expression_kinds kind) (among term_kinds kind)
