-- What the two passes of the check go by: the marks, and the commands that they step over.
use Rattle.std.specs.Prelude.{ℕ, ◌+◌, ◌<◌, ◌≤◌, ◌≡◌, Bool, List, None, Some, false, get_or}
use Rattle.std.specs.declared.option.Option.{Option}
use Rattle.buffer.specs.LittleEndian.{val}
use Rattle.buffer.specs.Slice.{part}
use Rattle.record.specs.Kind.{kind_named}
use Rattle.record.specs.declared.kind.Kind.{Kind}
use Rattle.record.specs.declared.kind.Kind.TheVariants.{Assignment, Loop}
use Rattle.bound_check.specs.declared.Heads.{Heads}

-- Whether the variable y is marked.
unfoldable pub marked : List Bool → ℕ → Bool
marked marks y = get_or marks y false

-- What a pass steps over, by the kind of a command: an assignment, a loop's head with that of its block, a block's head.
abbrev pub head_size : Kind → ℕ
head_size Assignment = 16
head_size Loop = 20
head_size _ = 4

-- A step of a pass: no command is left, or one stands where the pass has come to, and the pass goes on behind its head.
abbrev pub NextHead : Heads → Option (ℕ × Kind) → Heads → Type 0
NextHead s None t = s.to ≤ s.at
NextHead s (Some (at, kind)) t =
    (s.at < s.to) × (at ≡ s.at) × (kind ≡ kind_named (val (part s.src.now (s.at + 2) 2))) × (t ≡ record { src = s.src; at = s.at + head_size kind; to = s.to })
