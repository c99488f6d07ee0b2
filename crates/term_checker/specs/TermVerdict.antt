-- The verdict on a term's bytes, and what is left to check of a term behind its head.
use Rattle.std.specs.Prelude.{◌-◌, ℕ, ◌≤◌, ◌≡◌, List, drop, length, take}
use Rattle.std.proofs.Math.Option.{Option}
use Rattle.rules.specs.Literals.{atom_numerals, atoms_numerals, numerals_in, simple_numerals, small_values}
use Rattle.rules.specs.Scope.{atom_in_range, atoms_in_range, simple_in_range, term_in_range}
use Rattle.rules.specs.Store.{up_to}
use Rattle.rules.specs.Syntax.{Atom, Simple, Term}
use Rattle.record.specs.Header.{term_in}
use Rattle.checker.specs.declared.Verdict.{Verdict}
use Rattle.checker.specs.Verdict.{rating, verdict, worse}
use Rattle.term_checker.specs.declared.Opened.{Opened}
use Rattle.term_checker.specs.declared.Opened.TheVariants.{Last, Two, Whole}

-- The verdict on an atom of a term of k variables and of values up to a largest one.
abbrev pub atom_rating : ℕ → ℕ → Atom → Verdict
atom_rating k largest = rating (atom_in_range k) (λ a. small_values (up_to largest) (atom_numerals a))

-- The same of a row of atoms.
abbrev pub atoms_rating : ℕ → ℕ → List Atom → Verdict
atoms_rating k largest = rating (atoms_in_range k) (λ l. small_values (up_to largest) (atoms_numerals l))

-- The same of what a let-one binds.
abbrev pub simple_rating : ℕ → ℕ → Simple → Verdict
simple_rating k largest = rating (simple_in_range k) (λ s. small_values (up_to largest) (simple_numerals s))

-- The same of a term.
abbrev pub term_rating : ℕ → ℕ → Term → Verdict
term_rating k largest = rating (term_in_range k) (λ t. small_values (up_to largest) (numerals_in t))

-- The verdict on the term that was decoded, if one was.
unfoldable pub term_verdict : ℕ → ℕ → Option Term → Verdict
term_verdict k largest t = verdict (term_rating k largest) t

-- What the answer of a head's check says of the whole term: its verdict, or the verdicts that it is made of.
abbrev pub OpensTerm : ℕ → ℕ → List ℕ → Opened → Type 0
OpensTerm k largest l (Whole v) = term_verdict k largest (term_in k l) ≡ v
OpensTerm k largest l (Last v n) = (4 ≤ n) × (n ≤ length l) × (term_verdict k largest (term_in k l) ≡ worse v (term_verdict k largest (term_in k (drop n l))))
OpensTerm k largest l (Two n) =
    (4 ≤ n) × (n ≤ length l)
    × (term_verdict k largest (term_in k l) ≡ worse (term_verdict k largest (term_in k (take (n - 4) (drop 4 l)))) (term_verdict k largest (term_in k (drop n l))))
