-- How many bytes of commands come of a term: for a translation they are the program's, and they are counted term by term in the
-- order of the bytes.
use Prim.Native.Nat.{◌+◌, ◌<◌, ◌≤◌, ℕ}
use mathlib.Core.Path.{ap, refl, sym, ◌∙◌, ◌≡◌}
use mathlib.Core.List.{◌++◌, List, [], ◌∷◌}
use mathlib.Core.Option.{some}
use lib.ListN.{length}
use native.Mathlib.Omega.{arith}
use Rattle.buffer.specs.LittleEndian.{val}
use Rattle.buffer.specs.Slice.{part}
use Rattle.place.specs.TermView.{TermAt}
use Rattle.record.specs.declared.Header.{Header}
use Rattle.record.specs.Header.{contents_at, encode_program}
use Rattle.record.specs.Program.{block_size}
use Rattle.record.specs.Term.{kind_of_term}
use Rattle.rules.specs.ReadBack.{read_back}
use Rattle.rules.specs.Syntax.{Atom, Block, Term, assign, empty, let_all, let_one, loop, nest, rec, tuple}
use Rattle.rules.specs.Translation.{translate}
use Rattle.place.proofs.ProgramBytesLaws.{block_size-assign, block_size-empty, block_size-loop, block_size-nest}
use Rattle.place.proofs.SourceKindLaws.{kind_of_term-rec}
use Rattle.place.proofs.TermBytesLaws.{simple-least}
use Rattle.place.proofs.TermViewLaws.{as-let_all, as-let_one, as-rec, as-tuple, term-room}
use Rattle.record.proofs.HeaderLaws.{length-encode_program}
use Rattle.rules.proofs.ReadBackLaws.{translate-read_back}
use Rattle.readback.specs.CommandSize.{command_size, commands_size, nest_size, own_command}
use Rattle.recognition.specs.Scan.{TermsUpTo, inner, own_size}
use Rattle.recognition.proofs.ScanLaws.{terms-end, terms-first, terms-order}

-- A TRANSLATION'S COMMANDS ARE THE PROGRAM'S

-- a block's translation is no rec
nest-translate : (k : ℕ) (b : Block) → nest_size (translate k b) ≡ 4
unfolding nest_size translate
nest-translate k empty = refl
nest-translate k (assign x e r) = refl
nest-translate k (loop x n b r) = refl
nest-translate k (nest b r) = refl

size-translate : (k : ℕ) (b : Block) → command_size (translate k b) ≡ block_size b
unfolding command_size nest_size translate
size-translate k empty = sym block_size-empty
size-translate k (assign x e r) = omega (arith, size-translate k r, block_size-assign x e r)
size-translate k (loop x n b r) = omega (arith, size-translate k b, size-translate k r, block_size-loop x n b r)
size-translate k (nest b r) = omega (arith, nest-translate k b, size-translate k b, size-translate k r, block_size-nest b r)

pub program-length : (h : Header) (t : Term) (b : Block) → read_back h.k t ≡ some b → contents_at h + (4 + commands_size (t ∷ [])) ≡ length (encode_program h b)
unfolding commands_size
program-length h t b e =
    omega (arith, ap command_size (sym (translate-read_back h.k t b e)), size-translate h.k b, length-encode_program h b)

-- THEY COME TERM BY TERM

commands-step : (t : Term) (ts : List Term) → commands_size (t ∷ ts) ≡ own_command t + commands_size (inner t ++ ts)
unfolding commands_size command_size own_command inner
commands-step (tuple ys) ts = refl
commands-step (let_one x s t) ts = omega arith
commands-step (let_all s t) ts = omega arith
commands-step (rec x a ys t) ts = omega arith

commands-end : (ts : List Term) → ts ≡ [] → commands_size ts ≡ 0
unfolding commands_size
commands-end ts e = rw e refl

nest-short : (t : Term) → nest_size t ≤ 4
unfolding nest_size
nest-short (tuple ys) = omega arith
nest-short (let_one x s t) = omega arith
nest-short (let_all s t) = omega arith
nest-short (rec x a ys t) = omega arith

-- no more bytes come of a term than it has
command-short : (t : Term) → own_command t ≤ own_size t
unfolding own_command own_size
command-short (tuple ys) = omega arith
command-short (let_one x s t) = omega (arith, simple-least s)
command-short (let_all s t) = nest-short s
command-short (rec x a ys t) = omega arith

-- BY THE KINDS READ

module _ {l : List ℕ} {p k : ℕ} {t : Term} (h : TermAt l p k t) where
  pub command-tuple : val (part l (p + 2) 2) ≡ 36 → own_command t ≡ 0
  unfolding own_command
  command-tuple e = ap own_command (as-tuple h e).is

  pub command-let_one : val (part l (p + 2) 2) ≡ 37 → own_command t ≡ 16
  unfolding own_command
  command-let_one e = ap own_command (as-let_one h e).is

  pub command-rec : val (part l (p + 2) 2) ≡ 39 → own_command t ≡ 20
  unfolding own_command
  command-rec e = ap own_command (as-rec h e).is

  module _ (e : val (part l (p + 2) 2) ≡ 38) where
    -- the first term's kind is read inside the buffer
    pub first-room : p + 8 ≤ length l
    first-room = omega (arith, term-room (as-let_all h e).first-at)

    pub command-loop : val (part l (p + 6) 2) ≡ 39 → own_command t ≡ 0
    unfolding own_command nest_size
    command-loop f =
        let v = as-let_all h e in
        let q : p + 4 + 2 ≡ p + 6 = omega arith in
        ap own_command v.is ∙ ap nest_size (as-rec v.first-at (rw q f)).is

    pub command-nest : (val (part l (p + 6) 2) ≡ 39 → ⊥) → own_command t ≡ 4
    unfolding own_command nest_size
    command-nest f =
        let v = as-let_all h e in
        ap own_command v.is ∙ go v.first (λ x a ys u r. f (v.first_kind ∙ ap kind_of_term r ∙ kind_of_term-rec x a ys u))
      where
        go : (u : Term) → ((x : ℕ) (a : Atom) (ys : List Atom) (w : Term) → u ≡ rec x a ys w → ⊥) → nest_size u ≡ 4
        go (tuple ys) n = refl
        go (let_one x s u) n = refl
        go (let_all s u) n = refl
        go (rec x a ys u) n = absurd (n x a ys u refl)

-- THE LOOP THAT COUNTS THEM

-- When the loop comes to index `at` with n bytes counted, the rest of the bytes of ts come of the terms that are left.
pub record ToCount (l : List ℕ) (k to n at : ℕ) (ts : List Term) : Type 0 where
  pub terms : List Term
  pub row : TermsUpTo l k to at terms
  pub same : n + commands_size terms ≡ commands_size ts

pub count-start : {l : List ℕ} {k to p : ℕ} {ts : List Term} → TermsUpTo l k to p ts → ToCount l k to 0 p ts
count-start {ts = ts} h = record { terms = ts; row = h; same = omega arith }

pub count-to : {l : List ℕ} {k to n at p : ℕ} {ts : List Term} → p ≡ at → ToCount l k to n at ts → ToCount l k to n p ts
count-to e s = rw e s

module _ {l : List ℕ} {k to n at : ℕ} {ts : List Term} (s : ToCount l k to n at ts) where
  pub count-end : to ≤ at → n ≡ commands_size ts
  count-end b = omega (arith, s.same, commands-end s.terms (terms-end s.row b))

  module _ (b : at < to) where
    -- the term that the loop stands at
    pub count-here : (u : Term) × TermAt l at k u
    count-here = let f = terms-first s.row b in (f.term, f.here)

    pub count_room : (m : ℕ) → ((u : Term) → TermAt l at k u → m ≡ own_command u) → at + m ≤ to
    count_room m is-command =
        let f = terms-first s.row b in
        omega (arith, is-command f.term f.here, command-short f.term, terms-order f.after)

    module _ (m next : ℕ) (is-command : (u : Term) → TermAt l at k u → m ≡ own_command u) (is-next : (u : Term) → TermAt l at k u → next ≡ at + own_size u) where
      pub count_next : ToCount l k to (n + m) next ts
      count_next =
          let f = terms-first s.row b in
          let e : m ≡ own_command f.term = is-command f.term f.here in
          let q : commands_size s.terms ≡ own_command f.term + commands_size (inner f.term ++ f.rest) = ap commands_size f.is ∙ commands-step f.term f.rest in
          record {
            terms = inner f.term ++ f.rest;
            row = rw (is-next f.term f.here) f.after;
            same = omega (arith, s.same);
          }

      -- no more bytes are counted than passed
      pub count_low : at + m ≤ next
      count_low =
          let f = terms-first s.row b in
          omega (arith, is-command f.term f.here, is-next f.term f.here, command-short f.term)
