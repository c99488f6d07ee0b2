-- The whole record, header included, around a block or a term at the end of a path.
use Rattle.std.specs.Prelude.{◌+◌, ℕ, ◌++◌, List, ◌∷◌}
use Rattle.buffer.specs.LittleEndian.{le, val}
use Rattle.buffer.specs.Slice.{part, put}
use Rattle.rules.specs.Syntax.{Block, Term, empty}
use Rattle.record.specs.declared.Header.{Header}
use Rattle.record.specs.declared.Sort.{Sort}
use Rattle.record.specs.Header.{contents_at, fields_of, kind_of, program, term}
use Rattle.place.specs.Heads.{record_head, relength}
use Rattle.place.specs.Nesting.{Nesting, around, heads}
use Rattle.place.specs.Path.{blocks}
use Rattle.place.specs.TermPath.{terms}

-- Where the commands of a program's block start: behind the head of that block.
abbrev pub block_at : Header → ℕ
block_at h = contents_at h + 4

-- What stands in front of the contents of a record of n bytes in all.
unfoldable pub header : Sort → Header → ℕ → List ℕ
header s h n = record_head (kind_of s h) n ++ fields_of h

-- What stands in front of n bytes at the end of a path through the contents: the header, and the path's heads.
unfoldable pub front : {T : Type 0} → Nesting T → Sort → Header → List T → ℕ → List ℕ
front N s h p n = header s h (contents_at h + (n + around N p)) ++ heads N p n

-- The same of a program: its block is one level more, with nothing behind it.
abbrev pub program_front : Header → List Block → ℕ → List ℕ
program_front h p n = front blocks program h (empty ∷ p) n

-- And of a term.
abbrev pub term_front : Header → List Term → ℕ → List ℕ
term_front h p n = front terms term h p n

-- The header's length and the lengths of so many levels of the contents, which start at `start`, each put through f.
unfoldable pub relength_all : (ℕ → ℕ) → ℕ → ℕ → List ℕ → List ℕ
relength_all f start count l = relength f count start (put l 0 (le 2 (f (val (part l 0 2)))))
