-- The kinds of records by their numbers (01 "Records"; 02 C-17 joins 9 and 41).
use Rattle.std.specs.Prelude.{ℕ, Bool, false, true, List, [], ◌∷◌, eqb}
use Rattle.record.specs.declared.kind.Kind.{Kind}
use Rattle.record.specs.declared.kind.Kind.TheVariants.{Assignment, Block, LetAll, LetOne, Literal, Loop, MinusOne, Numeral, Other, PlusOne, Pred, Program, Rec, Reference, SecondProgram, SecondTerm, Succ, Term, Tuple, Variable}

-- The number that stands in a record of the kind.
abbrev pub kind_number : Kind → ℕ
kind_number Program = 7
kind_number SecondProgram = 9
kind_number Block = 1
kind_number Assignment = 2
kind_number Loop = 3
kind_number Literal = 16
kind_number Variable = 17
kind_number PlusOne = 18
kind_number MinusOne = 19
kind_number Term = 40
kind_number SecondTerm = 41
kind_number Numeral = 32
kind_number Reference = 33
kind_number Succ = 34
kind_number Pred = 35
kind_number Tuple = 36
kind_number LetOne = 37
kind_number LetAll = 38
kind_number Rec = 39
kind_number (Other n) = n

-- All that have a name.
abbrev pub kinds : List Kind
kinds =
    Program ∷ SecondProgram ∷ Block ∷ Assignment ∷ Loop ∷ Literal ∷ Variable ∷ PlusOne ∷ MinusOne ∷ Term ∷ SecondTerm ∷ Numeral
    ∷ Reference ∷ Succ ∷ Pred ∷ Tuple ∷ LetOne ∷ LetAll ∷ Rec ∷ []

-- One kind or the other, by a test.
abbrev pub kind_if : Bool → Kind → Kind → Kind
kind_if true k l = k
kind_if false k l = l

-- The kind of a list that has the number; one that none of them has names no kind.
abbrev pub kind_among : List Kind → ℕ → Kind
kind_among [] n = Other n
kind_among (k ∷ ks) n = kind_if (eqb n (kind_number k)) k (kind_among ks n)

-- The kind that a number names.
unfoldable pub kind_named : ℕ → Kind
kind_named n = kind_among kinds n

-- The kind that an expression, or a loop's bound, has in the translation (01 "Translation and read-back"); any other kind stays.
abbrev pub kind_in_term : Kind → Kind
kind_in_term Literal = Numeral
kind_in_term Variable = Reference
kind_in_term PlusOne = Succ
kind_in_term MinusOne = Pred
kind_in_term k = k

-- The kind that it has in the program again.
abbrev pub kind_in_program : Kind → Kind
kind_in_program Numeral = Literal
kind_in_program Reference = Variable
kind_in_program Succ = PlusOne
kind_in_program Pred = MinusOne
kind_in_program k = k
