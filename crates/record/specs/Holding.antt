-- A record in a buffer of any length: what the checks ask, and the one relation between trees and buffers.
use Rattle.std.specs.Prelude.{ℕ, ◌≤◌, ◌≡◌, List, length, take}
use Rattle.rules.specs.FreeVariables.{Vars}
use Rattle.rules.specs.Scope.{BlockWithin}
use Rattle.rules.specs.Sound.{SmallBlock, SmallValues, SoundTerm}
use Rattle.rules.specs.Syntax.{Block, Term}
use Rattle.record.specs.declared.Header.{Header}
use Rattle.record.specs.Header.{HeaderFits, encode_program, encode_term, ok_of}

-- P is a program under this header (01 "Records"): its variables are 1 to k, and its literals pass the header's test.
pub record IsProgram (h : Header) (P : Block) : Type 0 where
  pub variables : BlockWithin h.k P
  pub literals : SmallBlock (ok_of h) P

-- The first `used` bytes of the buffer are the record of the program P with this header.
pub record ProgramIn (h : Header) (P : Block) (buf : List ℕ) (used : ℕ) : Type 0 where
  pub within : used ≤ length buf
  pub header : HeaderFits h
  pub bytes : take used buf ≡ encode_program h P
  pub is_program : IsProgram h P

-- What rows 1 to 6, 15 and 16 let through: the record of the program P in the buffer, and k values, none above the ceiling.
pub record ProgramWithStore (h : Header) (P : Block) (buf : List ℕ) (used : ℕ) (store : List ℕ) : Type 0 where
  pub holds : ProgramIn h P buf used
  pub short : length buf ≤ 16384
  pub count : length store ≡ h.k
  pub values : SmallValues (ok_of h) store

-- As `ProgramIn`, of the term t: numerals are values, variables 1 to k, tuples of k atoms; only the variables of S are free.
pub record TermIn (S : Vars) (h : Header) (t : Term) (buf : List ℕ) (used : ℕ) : Type 0 where
  pub within : used ≤ length buf
  pub header : HeaderFits h
  pub bytes : take used buf ≡ encode_term h t
  pub sound : SoundTerm (ok_of h) h.k S t
