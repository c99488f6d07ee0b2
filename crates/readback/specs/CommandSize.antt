-- How many bytes of commands a term is the translation of, told term by term in the order of the bytes. Defined for every term;
-- of a translation it is what the program's commands have.
use Rattle.std.specs.Prelude.{◌+◌, ℕ, List, [], ◌∷◌}
use Rattle.rules.specs.Syntax.{Term, let_all, let_one, rec, tuple}

-- The head of the block that a let-all's first term is of; a rec is of no block.
unfoldable pub nest_size : Term → ℕ
nest_size (tuple ys) = 4
nest_size (let_one x s t) = 4
nest_size (let_all s t) = 4
nest_size (rec x a ys t) = 0

-- What comes of the term's own bytes.
unfoldable pub own_command : Term → ℕ
own_command (tuple ys) = 0
own_command (let_one x s t) = 16
own_command (let_all s t) = nest_size s
own_command (rec x a ys t) = 20

-- What comes of the term.
unfoldable pub command_size : Term → ℕ
command_size (tuple ys) = 0
command_size (let_one x s t) = 16 + command_size t
command_size (let_all s t) = nest_size s + (command_size s + command_size t)
command_size (rec x a ys t) = 20 + command_size t

-- What comes of several terms.
unfoldable pub commands_size : List Term → ℕ
commands_size [] = 0
commands_size (t ∷ ts) = command_size t + commands_size ts
