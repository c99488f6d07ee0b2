-- What each row's test says, proved.
use Prim.Native.Nat.{◌<◌, ℕ, ◌≤◌}
use mathlib.Core.Path.{◌≡◌, ap, refl, sym, ◌∙◌}
use mathlib.Core.Logic.Iff
use mathlib.Core.Logic.{inl, inr, ◌↔◌, ◌⊎◌}
use mathlib.Core.Bool.{Bool, false, not, true, ◌||◌}
use mathlib.Core.List.{List}
use mathlib.Core.Option.{Option, none, some}
use borrow.Author.Tests.{eq-eqb, eqb-true, lt-ltb, ltb-true, not-true}
use lib.Dec.{eqb, ltb}
use lib.ListN.{drop, length, length-drop, length-take, take}
use native.Mathlib.Omega.{arith}
use Rattle.buffer.specs.LittleEndian.{val}
use Rattle.rules.specs.FreeVariables.{closed}
use Rattle.rules.specs.Literals.{literals_in, numerals_in, small_values}
use Rattle.rules.specs.Scope.{block_in_range, in_range, term_in_range}
use Rattle.rules.specs.Syntax.{Atom, Term, let_all, let_one, rec, tuple}
use Rattle.rules.proofs.FreeVariablesLaws.{closed-free, free-closed}
use Rattle.rules.proofs.LiteralsLaws.{above-iff}
use Rattle.rules.proofs.ScopeLaws.{block_in_range-within, in_range-within, term_in_range-within, within-block_in_range, within-in_range, within-term_in_range}
use Rattle.rules.proofs.Tests.{true-false}
use Rattle.record.specs.declared.Conversion.{Conversion}
use Rattle.record.specs.declared.Conversion.TheVariants.{ToFirst, ToSecond}
use Rattle.record.specs.declared.Edition.TheVariants.{First, Second}
use Rattle.record.specs.declared.Header.{Header}
use Rattle.record.specs.declared.Sort.{Sort}
use Rattle.record.specs.Header.{block_bytes, block_in, ceiling_field, contents, contents_at, converted_header, edition_by, edition_field, form_of, is_second, k_field, kind_field, kind_of, largest_of, length_field, ok_of, program, term, term_in}
use Rattle.record.specs.Program.{BlockWords}
use Rattle.record.specs.RowMeaning.{BadHeader, RowsMean, WrongEdition}
use Rattle.record.specs.Rows.{bad_block, bad_buffer, bad_header, bad_k, bad_store, bad_term, block_above, block_of, block_outside, finished_term, header_of, is_none, k_of, open_term, small_ceiling, term_above, term_of, term_outside, too_long, unfinished, values_above, wrong_edition}
use Rattle.record.specs.Term.{TermWords, encode_term_record, same}
use Rattle.record.proofs.HeaderLaws.{block_in-bytes, block_in-sound, length-block_bytes, length-encode_term_record, term_in-bytes, term_in-sound}
use Rattle.record.proofs.HeldLaws.{bytes-contents}
use Rattle.record.proofs.RowLaws.{holds-some}

-- EQUIVALENCES OF TESTS

-- a test that is not true is false
off : (b : Bool) → (b ≡ true → ⊥) → b ≡ false
off true h = absurd (h refl)
off false h = refl

pub not_iff : {P : Type 0} (b : Bool) → (b ≡ true) ↔ P → (not b ≡ true) ↔ (P → ⊥)
not_iff b h = ((λ e p. true-false (sym (h.1 p) ∙ not-true b e)), (λ n. ap not (off b (λ e. n (h.0 e)))))

pub or-iff : {P Q : Type 0} (a b : Bool) → (a ≡ true) ↔ P → (b ≡ true) ↔ Q → ((a || b) ≡ true) ↔ (P ⊎ Q)
or-iff {P} {Q} a b g h = (to a b g h, back a b g h)
  where
    to : (a b : Bool) → (a ≡ true) ↔ P → (b ≡ true) ↔ Q → (a || b) ≡ true → P ⊎ Q
    to true b g h e = inl (g.0 refl)
    to false b g h e = inr (h.0 e)

    back : (a b : Bool) → (a ≡ true) ↔ P → (b ≡ true) ↔ Q → P ⊎ Q → (a || b) ≡ true
    back true b g h v = refl
    back false b g h (inl p) = true-false (sym (g.1 p))
    back false b g h (inr q) = h.1 q

pub ltb_iff : (a b : ℕ) → (ltb a b ≡ true) ↔ (a < b)
ltb_iff a b = (ltb-true a b, lt-ltb a b)

pub eqb-iff : (a b : ℕ) → (eqb a b ≡ true) ↔ (a ≡ b)
eqb-iff a b = (eqb-true a b, eq-eqb a b)

pub none-iff : {A : Type 0} {Q : A → Type 0} (o : Option A) → ((a : A) → o ≡ some a → Q a) → ((a : A) → Q a → o ≡ some a) → (is_none o ≡ true) ↔ ((a : A) → Q a → ⊥)
unfolding is_none
none-iff none f g = ((λ e a q. absurd (let s = g a q in let z : ◌≡◌ {A = ℕ} 0 1 = cc in omega arith)), (λ n. refl))
none-iff (some a) f g = ((λ e. true-false (sym e)), (λ n. absurd (n a (f a refl))))

curry-iff : {A : Type 0} {P Q : A → Type 0} {B : Type 0} → B ↔ ((a : A) → (P a × Q a) → ⊥) → B ↔ ((a : A) → P a → Q a → ⊥)
curry-iff h = ((λ b a p q. (h.0 b) a (p, q)), (λ f. h.1 (λ a v. f a v.0 v.1)))

short-inside : (used : ℕ) (buf : List ℕ) → length (contents (take used buf)) ≤ length buf
unfolding contents
short-inside used buf = omega (arith, length-drop (contents_at (header_of buf used)) (take used buf), length-take used buf)

pub finished-iff : (t : Term) → (finished_term t ≡ true) ↔ ((l : List Atom) × (t ≡ tuple l))
unfolding finished_term
finished-iff (tuple l) = ((λ e. (l, refl)), (λ v. refl))
finished-iff (let_one x s t) = ((λ e. true-false (sym e)), (λ v. cc v.1))
finished-iff (let_all t u) = ((λ e. true-false (sym e)), (λ v. cc v.1))
finished-iff (rec x a l t) = ((λ e. true-false (sym e)), (λ v. cc v.1))

-- THE ROWS

-- row 2 of either sort, by what the header says
pub header-bad : (s : Sort) (buf : List ℕ) (used : ℕ)
    → (bad_header s buf used ≡ true)
    ↔ ((used < contents_at (header_of buf used)) ⊎ ((kind_field (take used buf) ≡ kind_of s (header_of buf used) → ⊥) ⊎ (length_field (take used buf) ≡ used → ⊥)))
unfolding bad_header
header-bad s buf used =
    let start : ℕ = contents_at (header_of buf used) in
    let kind : ℕ = kind_of s (header_of buf used) in
    let is-kind : Bool = eqb (kind_field (take used buf)) kind in
    let is-length : Bool = eqb (length_field (take used buf)) used in
    or-iff (ltb used start) (not is-kind || not is-length) (ltb_iff used start)
    (or-iff (not is-kind) (not is-length) (not_iff is-kind (eqb-iff (kind_field (take used buf)) kind)) (not_iff is-length (eqb-iff (length_field (take used buf)) used)))

-- in plain numbers: a kind of edition 2 is not the first's and has a header of 12 bytes; another is not the second's, and has one of 8
module _ (first second used : ℕ) (r : List ℕ) (start kind : ℕ) where
  abbrev BadFields : Type 0
  BadFields = (used < start) ⊎ ((kind_field r ≡ kind → ⊥) ⊎ (length_field r ≡ used → ⊥))

  module _ (long : start ≡ 12) (is : kind ≡ second) (other : kind_field r ≡ first → ⊥) where
    cut-second : Dec (kind_field r ≡ second) → used < 12 → BadHeader first second used r
    cut-second (yes e) h = inr (inl (e, h))
    cut-second (no n) h = inr (inr (inl (other, n)))

    to-second : BadFields → BadHeader first second used r
    to-second (inl h) = cut-second (same (kind_field r) second) (omega arith)
    to-second (inr (inl h)) = inr (inr (inl (other, (λ e. h (e ∙ sym is)))))
    to-second (inr (inr h)) = inr (inr (inr h))

    from_second : BadHeader first second used r → BadFields
    from_second (inl h) = inl (omega arith)
    from_second (inr (inl v)) = inl (omega (arith, v.1))
    from_second (inr (inr (inl v))) = inr (inl (λ e. v.1 (e ∙ is)))
    from_second (inr (inr (inr h))) = inr (inr h)

  module _ (long : start ≡ 8) (is : kind ≡ first) (other : kind_field r ≡ second → ⊥) where
    to-first : BadFields → BadHeader first second used r
    to-first (inl h) = inl (omega arith)
    to-first (inr (inl h)) = inr (inr (inl ((λ e. h (e ∙ sym is)), other)))
    to-first (inr (inr h)) = inr (inr (inr h))

    from_first : BadHeader first second used r → BadFields
    from_first (inl h) = inl (omega arith)
    from_first (inr (inl v)) = absurd (other v.0)
    from_first (inr (inr (inl v))) = inr (inl (λ e. v.0 (e ∙ is)))
    from_first (inr (inr (inr h))) = inr (inr h)

-- the kinds of edition 2
second-iff : (kind : ℕ) → (is_second kind ≡ true) ↔ ((kind ≡ 9) ⊎ (kind ≡ 41))
unfolding is_second
second-iff kind = or-iff (eqb kind 9) (eqb kind 41) (eqb-iff kind 9) (eqb-iff kind 41)

-- row 2 of a sort, whose kinds in the two editions are told apart
module _ (s : Sort) (first second : ℕ) (of-first : (k : ℕ) → kind_of s (record { k = k; edition = First }) ≡ first)
    (of-second : (k c : ℕ) → kind_of s (record { k = k; edition = Second c }) ≡ second) (not-second : is_second first ≡ false) (is-second : is_second second ≡ true)
    (buf : List ℕ) (used : ℕ) where
  abbrev r : List ℕ
  r = take used buf

  -- the header, by whether its kind is one of edition 2
  abbrev by : Bool → Header
  by b = record { k = k_field r; edition = edition_by b (ceiling_field r) }

  plain : (b : Bool) → is_second (kind_field r) ≡ b
      → ((used < contents_at (by b)) ⊎ ((kind_field r ≡ kind_of s (by b) → ⊥) ⊎ (length_field r ≡ used → ⊥))) ↔ BadHeader first second used r
  unfolding edition_by contents_at form_of
  plain true e =
      let other : kind_field r ≡ first → ⊥ = λ q. true-false (sym e ∙ ap is_second q ∙ not-second) in
      let is = of-second (k_field r) (ceiling_field r) in
      (to-second first second used r 12 (kind_of s (by true)) refl is other, from_second first second used r 12 (kind_of s (by true)) refl is other)
  plain false e =
      let other : kind_field r ≡ second → ⊥ = λ q. true-false (sym (ap is_second q ∙ is-second) ∙ e) in
      let is = of-first (k_field r) in
      (to-first first second used r 8 (kind_of s (by false)) refl is other, from_first first second used r 8 (kind_of s (by false)) refl is other)

  header-two : (bad_header s buf used ≡ true) ↔ BadHeader first second used r
  unfolding edition_field
  header-two = Iff.trans (header-bad s buf used) (plain (is_second (kind_field r)) refl)

-- row 2 of a conversion: a record of the other edition is the wrong kind, and of its own edition it is what it is of every call
module _ (first second used : ℕ) (r : List ℕ) (apart : first ≡ second → ⊥) where
  first_alone : (BadHeader first second used r ⊎ (kind_field r ≡ second)) ↔ WrongEdition 8 first used r
  first_alone = (there, back)
    where
      not_first : kind_field r ≡ second → kind_field r ≡ first → ⊥
      not_first e q = apart (sym q ∙ e)

      there : BadHeader first second used r ⊎ (kind_field r ≡ second) → WrongEdition 8 first used r
      there (inl (inl h)) = inl h
      there (inl (inr (inl v))) = inr (inl (not_first v.0))
      there (inl (inr (inr (inl v)))) = inr (inl v.0)
      there (inl (inr (inr (inr h)))) = inr (inr h)
      there (inr e) = inr (inl (not_first e))

      wrong-kind : Dec (kind_field r ≡ second) → (kind_field r ≡ first → ⊥) → BadHeader first second used r ⊎ (kind_field r ≡ second)
      wrong-kind (yes e) h = inr e
      wrong-kind (no n) h = inl (inr (inr (inl (h, n))))

      back : WrongEdition 8 first used r → BadHeader first second used r ⊎ (kind_field r ≡ second)
      back (inl h) = inl (inl h)
      back (inr (inl h)) = wrong-kind (same (kind_field r) second) h
      back (inr (inr h)) = inl (inr (inr (inr h)))

  second-alone : (BadHeader first second used r ⊎ (kind_field r ≡ first)) ↔ WrongEdition 12 second used r
  second-alone = (there, back)
    where
      there : BadHeader first second used r ⊎ (kind_field r ≡ first) → WrongEdition 12 second used r
      there (inl (inl h)) = inl (omega arith)
      there (inl (inr (inl v))) = inl v.1
      there (inl (inr (inr (inl v)))) = inr (inl v.1)
      there (inl (inr (inr (inr h)))) = inr (inr h)
      there (inr e) = inr (inl (λ q. apart (sym e ∙ q)))

      wrong-kind : Dec (kind_field r ≡ first) → (kind_field r ≡ second → ⊥) → BadHeader first second used r ⊎ (kind_field r ≡ first)
      wrong-kind (yes e) h = inr e
      wrong-kind (no n) h = inl (inr (inr (inl (n, h))))

      cut : Dec (kind_field r ≡ second) → used < 12 → BadHeader first second used r ⊎ (kind_field r ≡ first)
      cut (yes e) h = inl (inr (inl (e, h)))
      cut (no n) h = wrong-kind (same (kind_field r) first) n

      back : WrongEdition 12 second used r → BadHeader first second used r ⊎ (kind_field r ≡ first)
      back (inl h) = cut (same (kind_field r) second) h
      back (inr (inl h)) = wrong-kind (same (kind_field r) first) h
      back (inr (inr h)) = inl (inr (inr (inr h)))

wrong-iff : {A : Type 0} (s : Sort) (to : Conversion) (buf : List ℕ) (used n : ℕ) → kind_of s (converted_header to (header_of buf used)) ≡ n
    → (bad_header s buf used ≡ true) ↔ A → (wrong_edition s to buf used ≡ true) ↔ (A ⊎ (kind_field (take used buf) ≡ n))
unfolding wrong_edition
wrong-iff s to buf used n e h =
    let kind : ℕ = kind_of s (converted_header to (header_of buf used)) in
    or-iff (bad_header s buf used) (eqb (kind_field (take used buf)) kind) h
    (Iff.trans (eqb-iff (kind_field (take used buf)) kind) ((λ q. q ∙ e), (λ q. q ∙ sym e)))

-- the ceiling that a header has
module _ (buf : List ℕ) (used : ℕ) where
  abbrev the_kind : ℕ
  the_kind = kind_field (take used buf)

  has-ceiling : (the_kind ≡ 9) ⊎ (the_kind ≡ 41) → largest_of (header_of buf used) ≡ val (take 4 (drop 8 (take used buf)))
  unfolding largest_of edition_field edition_by form_of ceiling_field
  has-ceiling h = rw ((second-iff the_kind).1 h) refl

  no-ceiling : (the_kind ≡ 9 → ⊥) → (the_kind ≡ 41 → ⊥) → largest_of (header_of buf used) ≡ 4294967295
  unfolding largest_of edition_field edition_by form_of
  no-ceiling a b = go (is_second the_kind) refl
    where
      neither : (the_kind ≡ 9) ⊎ (the_kind ≡ 41) → ⊥
      neither (inl e) = a e
      neither (inr e) = b e

      go : (s : Bool) → is_second the_kind ≡ s → (form_of (edition_by s (ceiling_field (take used buf)))).largest ≡ 4294967295
      go true e = absurd (neither ((second-iff the_kind).0 e))
      go false e = refl

pub rows-mean : RowsMean
unfolding bad_buffer too_long kind_of form_of is_second bad_k bad_block bad_term block_outside term_outside bad_store open_term unfinished block_above term_above values_above small_ceiling converted_header
rows-mean = record {
  one = λ buf used. or-iff (ltb 16384 (length buf)) (ltb (length buf) used) (ltb_iff 16384 (length buf)) (ltb_iff (length buf) used);
  two = header-two program 7 9 (λ k. refl) (λ k c. refl) refl refl;
  two_term = header-two term 40 41 (λ k. refl) (λ k c. refl) refl refl;
  two_to_second = λ buf used. Iff.trans (wrong-iff program ToSecond buf used 9 refl (header-two program 7 9 (λ k. refl) (λ k c. refl) refl refl buf used)) (first_alone 7 9 used (take used buf) (λ e. omega arith));
  two_to_first = λ buf used. Iff.trans (wrong-iff program ToFirst buf used 7 refl (header-two program 7 9 (λ k. refl) (λ k c. refl) refl refl buf used)) (second-alone 7 9 used (take used buf) (λ e. omega arith));
  two_term_to_second = λ buf used. Iff.trans (wrong-iff term ToSecond buf used 41 refl (header-two term 40 41 (λ k. refl) (λ k c. refl) refl refl buf used)) (first_alone 40 41 used (take used buf) (λ e. omega arith));
  two_term_to_first = λ buf used. Iff.trans (wrong-iff term ToFirst buf used 40 refl (header-two term 40 41 (λ k. refl) (λ k c. refl) refl refl buf used)) (second-alone 40 41 used (take used buf) (λ e. omega arith));
  three = λ buf used. not_iff (in_range 16 (k_of buf used)) (in_range-within 16 (k_of buf used), within-in_range 16 (k_of buf used));
  four = λ buf used hb l. curry-iff (none-iff {Q = λ P. BlockWords P × (contents (take used buf) ≡ block_bytes P)} (block_of buf used)
      (λ P e. let s = block_in-sound (contents (take used buf)) P (bytes-contents used buf hb) e in (s.1, s.0))
      (λ P v. ap block_in v.1 ∙ block_in-bytes P v.0 (omega (arith, length-block_bytes P, ap length v.1, short-inside used buf))));
  four_term = λ buf used hb l. curry-iff (none-iff {Q = λ t. TermWords (k_of buf used) t × (contents (take used buf) ≡ encode_term_record t)} (term_of buf used)
      (λ t e. let s = term_in-sound (k_of buf used) (contents (take used buf)) t (bytes-contents used buf hb) e in (s.1, s.0))
      (λ t v. ap (term_in (k_of buf used)) v.1 ∙ term_in-bytes (k_of buf used) t v.0 (omega (arith, length-encode_term_record t, ap length v.1, short-inside used buf))));
  five = λ buf used P e. rw (holds-some (λ t. not (block_in_range (k_of buf used) t)) (block_of buf used) P e)
      (not_iff (block_in_range (k_of buf used) P) (block_in_range-within (k_of buf used) P, within-block_in_range (k_of buf used) P));
  five_term = λ buf used t e. rw (holds-some (λ u. not (term_in_range (k_of buf used) u)) (term_of buf used) t e)
      (not_iff (term_in_range (k_of buf used) t) (term_in_range-within (k_of buf used) t, within-term_in_range (k_of buf used) t));
  six = λ buf used store. not_iff (eqb (length store) (k_of buf used)) (eqb-iff (length store) (k_of buf used));
  seven = λ buf used t e. rw (holds-some (λ u. not (closed u)) (term_of buf used) t e)
      ((λ h. closed-free t (not-true (closed t) h)), (λ f. ap not (free-closed t f.0 f.1)));
  eight = λ buf used t e. rw (holds-some (λ u. not (finished_term u)) (term_of buf used) t e) (not_iff (finished_term t) (finished-iff t));
  fifteen = λ buf used P e. rw (holds-some (λ t. not (small_values (ok_of (header_of buf used)) (literals_in t))) (block_of buf used) P e)
      (above-iff (largest_of (header_of buf used)) (literals_in P));
  fifteen_term = λ buf used t e. rw (holds-some (λ u. not (small_values (ok_of (header_of buf used)) (numerals_in u))) (term_of buf used) t e)
      (above-iff (largest_of (header_of buf used)) (numerals_in t));
  sixteen = λ buf used values. above-iff (largest_of (header_of buf used)) values;
  seventeen = λ buf used. ltb_iff (largest_of (header_of buf used)) 4294967295;
  ceiling = has-ceiling;
  no_ceiling = no-ceiling;
}
