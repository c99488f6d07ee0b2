-- The first command of a block's contents, and the rest of them.
use Rattle.std.specs.Prelude.{ℕ}
use Rattle.std.proofs.Math.Option.{Option, none, some}
use Rattle.rules.specs.Syntax.{Block, Bound, Expr, append, assign, empty, loop, nest}

-- The commands that two lists of bytes hold, one after the other, if both hold a block.
abbrev pub joined : Option Block → Option Block → Option Block
joined none q = none
joined (some p) none = none
joined (some p) (some q) = some (append p q)

-- The block of one command: a block, an assignment, a loop, from what its parts hold.
abbrev pub one_nest : Option Block → Option Block
one_nest none = none
one_nest (some p) = some (nest p empty)

-- The block of one assignment to a variable, if there is an expression.
abbrev pub one_assign : ℕ → Option Expr → Option Block
one_assign x none = none
one_assign x (some e) = some (assign x e empty)

-- The block of one loop over an index variable, if there are a bound and a body.
abbrev pub one_loop : ℕ → Option Bound → Option Block → Option Block
one_loop x none p = none
one_loop x (some b) none = none
one_loop x (some b) (some p) = some (loop x b p empty)
