-- The numbers in the record of a command at the place i, in bytes whose program has its first command at `start`.
use Rattle.std.specs.Prelude.{◌+◌, ℕ, List}
use Rattle.buffer.specs.LittleEndian.{val}
use Rattle.buffer.specs.Slice.{part}

-- its length
abbrev pub size_at : ℕ → List ℕ → ℕ → ℕ
size_at start buf i = val (part buf (start + i) 2)

-- its kind
abbrev pub standing_at : ℕ → List ℕ → ℕ → ℕ
standing_at start buf i = val (part buf (start + i + 2) 2)

-- its variable, of an assignment or a loop
abbrev pub variable_at : ℕ → List ℕ → ℕ → ℕ
variable_at start buf i = val (part buf (start + i + 4) 4)

-- the kind of its expression or bound
abbrev pub kind_at : ℕ → List ℕ → ℕ → ℕ
kind_at start buf i = val (part buf (start + i + 10) 2)

-- the number in that
abbrev pub number_at : ℕ → List ℕ → ℕ → ℕ
number_at start buf i = val (part buf (start + i + 12) 4)
