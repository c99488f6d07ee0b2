-- What a call answers, by the way out of its code: one law for each.
use Prim.Native.Nat.{◌<◌, ℕ, ◌≤◌}
use mathlib.Core.Path.{ap, ap₂, refl, subst, sym, ◌∙◌, ◌≡◌}
use mathlib.Core.Bool.{Bool, false, not, true, ◌||◌}
use mathlib.Core.List.{List, [], map, ◌∷◌}
use mathlib.Core.Option.{Option, none, some}
use lib.ListN.{length}
use native.Mathlib.Omega.{arith}
use Rattle.record.specs.Answers.{Stored, Wrote, check_program, check_term, check_term_rows, padded}
use Rattle.record.specs.declared.Header.{Header}
use Rattle.record.specs.Header.{encode_program, encode_term, largest_of, ok_of}
use Rattle.record.specs.Holding.{ProgramIn, TermIn}
use Rattle.record.specs.Rows.{Row, bad_buffer, bad_store, finished_term, first_row, is_none, limited_term_rows, row, store_rows, too_long, values_above}
use Rattle.rules.specs.FreeVariables.{all_vars, closed, closed_in, no_vars}
use Rattle.rules.specs.Literals.{small_values}
use Rattle.rules.specs.ReadBack.{read_back}
use Rattle.rules.specs.Reduction.{value_of}
use Rattle.rules.specs.Replaced.{replaced}
use Rattle.rules.specs.Sound.{SmallValues}
use Rattle.rules.specs.Store.{up_to}
use Rattle.rules.specs.Substitution.{from_store, substitute}
use Rattle.rules.specs.Syntax.{Block, Term, num, tuple}
use Rattle.rules.specs.Translation.{translate}
use Rattle.record.proofs.CheckedRowLaws.{closed-term, program-refuses, term-refuses}
use Rattle.record.proofs.HeaderLaws.{length-encode_term}
use Rattle.record.proofs.HeldLaws.{good-values, store-good, values-read}
use Rattle.record.proofs.HoldingLaws.{term-header, term-k, term-passes, term-size}
use Rattle.record.proofs.SizeLaws.{replaced-most}
use Rattle.record.proofs.RowLaws.{first-applies, first-behind, first-skips, is_none-none, is_none-some, not-intro, or_right, or-true}
use Rattle.record.proofs.RowMeaningLaws.{finished-iff, rows-mean}
use Rattle.rules.proofs.FreeVariablesLaws.{closed-nums}
use Rattle.rules.proofs.Tests.{true-false}
use Rattle.term.specs.Calls.{Substituted, read_back_call, read_back_rows, result_call, result_rows, substitute_call, substitute_rows, translate_call, translate_rows}
use Rattle.term.proofs.CallLaws.{read_back-fits, read_back-long, read_back-none, read_back-number, read_back-refused, result-first, result-refused, substitute-gives, substitute-refused, translate-fits, translate-long, translate-number, translate-refused}
use Rattle.term.proofs.CallMeaningLaws.{result-gives}

-- A refusal of a call that writes a buffer.
abbrev pub refusal : ℕ → List ℕ → Wrote
refusal n buf = record { number = n; used = 0; written = buf }

-- a call that refuses by its first row, by the number of that row
by_row : {A : Type 0} (rows : List Row) (refuses : ℕ → A) (call : A) → ((first_row rows ≡ 0 → ⊥) → call ≡ refuses (first_row rows)) → (n : ℕ) → first_row rows ≡ n → (n ≡ 0 → ⊥) → refuses n ≡ call
by_row rows refuses call refused n e h = sym (refused (λ z. h (sym e ∙ z)) ∙ ap refuses e)

-- ROW 1 of a call with an output buffer

long-first : (src : List ℕ) (used : ℕ) (out : List ℕ) (more : List Row) → too_long out ≡ true → first_row (row 1 (bad_buffer src used || too_long out) ∷ more) ≡ 1
long-first src used out more h = first-applies 1 (bad_buffer src used || too_long out) more (or-true (bad_buffer src used) (too_long out) h)

source-alone : (src : List ℕ) (used : ℕ) (out : List ℕ) → too_long out ≡ false → (bad_buffer src used || too_long out) ≡ bad_buffer src used
source-alone src used out h = or_right (bad_buffer src used) (too_long out) h

-- TRANSLATE

translate-row : (src : List ℕ) (used : ℕ) (out : List ℕ) (n : ℕ) → first_row (translate_rows src used out) ≡ n → (n ≡ 0 → ⊥) → refusal n out ≡ translate_call src used out
translate-row src used out = by_row (translate_rows src used out) (λ m. refusal m out) (translate_call src used out) (translate-refused src used out)

pub translate-one : (src : List ℕ) (used : ℕ) (out : List ℕ) → too_long out ≡ true → refusal 1 out ≡ translate_call src used out
translate-one src used out h =
    translate-row src used out 1 (long-first src used out _ h) (λ z. omega (arith, z))

pub translate-checked : (src : List ℕ) (used n k : ℕ) (out : List ℕ) → check_program src used ≡ record { number = n; k = k } → (n ≡ 0 → ⊥) → too_long out ≡ false
    → refusal n out ≡ translate_call src used out
translate-checked src used n k out e h lo =
    translate-row src used out n (program-refuses src used n k e h (bad_buffer src used || too_long out) (source-alone src used out lo) _) h

module _ {hd : Header} {P : Block} {src : List ℕ} {used : ℕ} (h : ProgramIn hd P src used) (l : length src ≤ 16384) (out : List ℕ) (lo : length out ≤ 16384) (n : ℕ) (e : n ≡ length (encode_term hd (translate hd.k P))) where
  pub translate-ten : length out < n → refusal 10 out ≡ translate_call src used out
  translate-ten f =
      translate-row src used out 10 (sym (translate-number src used out) ∙ translate-long h l out lo (omega (arith, e, f))) (λ z. omega (arith, z))

  pub translate-zero : n ≤ length out → (after : List ℕ) → after ≡ padded (length out) (encode_term hd (translate hd.k P))
      → record { number = 0; used = n; written = after } ≡ translate_call src used out
  translate-zero f after a =
      ap (λ (m : ℕ). record { number = 0; used = m; written = after }) e
      ∙ ap (λ (b : List ℕ). record { number = 0; used = length (encode_term hd (translate hd.k P)); written = b }) a
      ∙ sym (translate-fits h l out lo (omega (arith, e, f)))

-- READ BACK

read_back-row : (src : List ℕ) (used : ℕ) (out : List ℕ) (n : ℕ) → first_row (read_back_rows src used out) ≡ n → (n ≡ 0 → ⊥) → refusal n out ≡ read_back_call src used out
read_back-row src used out = by_row (read_back_rows src used out) (λ m. refusal m out) (read_back_call src used out) (read_back-refused src used out)

pub read_back-one : (src : List ℕ) (used : ℕ) (out : List ℕ) → too_long out ≡ true → refusal 1 out ≡ read_back_call src used out
read_back-one src used out h =
    read_back-row src used out 1 (long-first src used out _ h) (λ z. omega (arith, z))

pub read_back-checked : (src : List ℕ) (used n k : ℕ) (out : List ℕ) → check_term src used ≡ record { number = n; k = k } → (n ≡ 0 → ⊥) → too_long out ≡ false
    → refusal n out ≡ read_back_call src used out
read_back-checked src used n k out e h lo =
    read_back-row src used out n (term-refuses src used n k e h (bad_buffer src used || too_long out) (source-alone src used out lo) _) h

-- what the test of row 9 finds
no_source : (o : Option Block) (found : Bool) → found ≡ not (is_none o) → found ≡ false → o ≡ none
no_source none found e f = refl
no_source (some P) found e f = true-false (sym (e ∙ ap not (is_none-some (some P) P refl)) ∙ f)

module _ {hd : Header} {t : Term} {src : List ℕ} {used : ℕ} (h : TermIn all_vars hd t src used) (l : length src ≤ 16384) (out : List ℕ) (lo : length out ≤ 16384) where
  pub read_back-nine : (found : Bool) → found ≡ not (is_none (read_back hd.k t)) → found ≡ false → refusal 9 out ≡ read_back_call src used out
  read_back-nine found e f =
      read_back-row src used out 9 (sym (read_back-number src used out) ∙ read_back-none h l out lo (no_source (read_back hd.k t) found e f)) (λ z. omega (arith, z))

  module _ (P : Block) (e : read_back hd.k t ≡ some P) (n : ℕ) (m : n ≡ length (encode_program hd P)) where
    pub read_back-ten : length out < n → refusal 10 out ≡ read_back_call src used out
    read_back-ten f =
        read_back-row src used out 10 (sym (read_back-number src used out) ∙ read_back-long h l out lo P e (omega (arith, m, f))) (λ z. omega (arith, z))

    pub read_back-zero : n ≤ length out → (after : List ℕ) → after ≡ padded (length out) (encode_program hd P)
        → record { number = 0; used = n; written = after } ≡ read_back_call src used out
    read_back-zero f after a =
        ap (λ (i : ℕ). record { number = 0; used = i; written = after }) m
        ∙ ap (λ (b : List ℕ). record { number = 0; used = length (encode_program hd P); written = b }) a
        ∙ sym (read_back-fits h l out lo P e (omega (arith, m, f)))

pub source-found : (o : Option Block) (found : Bool) → found ≡ not (is_none o) → found ≡ true → (P : Block) × (o ≡ some P)
source-found none found e f = true-false (sym (sym e ∙ f) ∙ ap not (is_none-none none refl))
source-found (some P) found e f = (P, refl)

-- ROW 6

six-first : {hd : Header} {t : Term} {buf : List ℕ} {used : ℕ} → TermIn all_vars hd t buf used → length buf ≤ 16384 → (store : List ℕ) → (length store ≡ hd.k → ⊥) → (more : List Row)
    → first_row (row 1 (bad_buffer buf used) ∷ limited_term_rows buf used (row 6 (bad_store buf used store) ∷ more)) ≡ 6
six-first {hd} {t} {buf} {used} h l store n more =
    first-behind (check_term_rows buf used) (row 6 (bad_store buf used store) ∷ more) (term-passes h l [] tt)
    ∙ first-applies 6 (bad_store buf used store) more ((rows-mean.six buf used store).1 (λ e. n (e ∙ term-k h)))

-- SUBSTITUTE

-- A refusal of it.
abbrev pub refusing : ℕ → List ℕ → Substituted
refusing n buf = record { number = n; used = 0; replaced = 0; written = buf }

substitute-row : (buf : List ℕ) (used : ℕ) (store : List ℕ) (n : ℕ) → first_row (substitute_rows buf used store) ≡ n → (n ≡ 0 → ⊥) → refusing n buf ≡ substitute_call buf used store
substitute-row buf used store = by_row (substitute_rows buf used store) (λ m. refusing m buf) (substitute_call buf used store) (substitute-refused buf used store)

pub substitute-checked : (buf : List ℕ) (used n k : ℕ) (store : List ℕ) → check_term buf used ≡ record { number = n; k = k } → (n ≡ 0 → ⊥)
    → refusing n buf ≡ substitute_call buf used store
substitute-checked buf used n k store e h = substitute-row buf used store n (term-refuses buf used n k e h (bad_buffer buf used) refl _) h

module _ {hd : Header} {t : Term} {buf : List ℕ} {used : ℕ} (h : TermIn all_vars hd t buf used) (l : length buf ≤ 16384) (store : List ℕ) where
  pub substitute-six : (length store ≡ hd.k → ⊥) → refusing 6 buf ≡ substitute_call buf used store
  substitute-six n = substitute-row buf used store 6 (six-first h l store n _) (λ z. omega (arith, z))

  -- row 16, by the largest value that the header has
  module _ (e : length store ≡ hd.k) (largest : ℕ) (limits : largest ≡ largest_of hd) (above : Bool) (tells : above ≡ not (small_values (up_to largest) store)) where
    values-as : values_above buf used store ≡ above
    values-as = values-read buf used hd (term-header h) largest limits store above tells

    pub substitute-sixteen : above ≡ true → refusing 16 buf ≡ substitute_call buf used store
    substitute-sixteen t =
        substitute-row buf used store 16
        (first-behind (check_term_rows buf used) (store_rows buf used store []) (term-passes h l [] tt)
        ∙ first-skips 6 (bad_store buf used store) _ (store-good buf used store (e ∙ sym (term-k h)))
        ∙ first-applies 16 (values_above buf used store) [] (values-as ∙ t))
        (λ z. omega (arith, z))

    pub values-small : above ≡ false → SmallValues (ok_of hd) store
    values-small f = subst (λ (x : Header). SmallValues (ok_of x) store) (term-header h) (good-values buf used store (values-as ∙ f))

  -- at most a variable for every 8 bytes is replaced, and so the count takes 4 bytes
  pub substitute-few : (n : ℕ) → n ≡ replaced (from_store store) t → n ≤ 2048
  substitute-few n e = omega (arith, replaced-most (from_store store) t, length-encode_term hd t, term-size h, h.within, l)

  pub substitute-zero : length store ≡ hd.k → SmallValues (ok_of hd) store → (after : List ℕ) (n : ℕ) → (after ≡ padded (length buf) (encode_term hd (substitute (from_store store) t))) × (n ≡ replaced (from_store store) t)
      → record { number = 0; used = used; replaced = n; written = after } ≡ substitute_call buf used store
  substitute-zero e v after n a = ap₂ (λ (b : List ℕ) (m : ℕ). record { number = 0; used = used; replaced = m; written = b }) a.0 a.1 ∙ sym (substitute-gives h l store e v)

-- RESULT

-- The number and the store afterwards are those of the call.
abbrev pub Results : List ℕ → ℕ → List ℕ → ℕ → List ℕ → Type 0
Results buf used store n after = (n ≡ (result_call buf used store).number) × (after ≡ (result_call buf used store).store)

results-are : (buf : List ℕ) (used : ℕ) (store : List ℕ) (n : ℕ) (after : List ℕ) → result_call buf used store ≡ record { number = n; store = after } → Results buf used store n after
results-are buf used store n after e = (ap (λ (s : Stored). s.number) (sym e), ap (λ (s : Stored). s.store) (sym e))

result_row : (buf : List ℕ) (used : ℕ) (store : List ℕ) (n : ℕ) → first_row (result_rows buf used store) ≡ n → (n ≡ 0 → ⊥) → Results buf used store n store
result_row buf used store n e h =
    results-are buf used store n store
    (result-refused buf used store (λ z. h (sym e ∙ z)) ∙ ap (λ (m : ℕ). record { number = m; store = store }) e)

pub result-checked : (buf : List ℕ) (used n k : ℕ) (store : List ℕ) → check_term buf used ≡ record { number = n; k = k } → (n ≡ 0 → ⊥) → Results buf used store n store
result-checked buf used n k store e h = result_row buf used store n (term-refuses buf used n k e h (bad_buffer buf used) refl _) h

-- a finished term without free variables is a tuple of numerals
pub numerals-of : {hd : Header} {t : Term} {buf : List ℕ} {used : ℕ} → TermIn all_vars hd t buf used → closed t ≡ true → finished_term t ≡ true
    → (vs : List ℕ) × TermIn no_vars hd (tuple (map num vs)) buf used
unfolding closed closed_in
numerals-of {hd} {t} {buf} {used} h c f =
    let o = (finished-iff t).0 f in
    let all : closed (tuple o.0) ≡ true = ap closed (sym o.1) ∙ c in (
      map value_of o.0,
      subst (λ u. TermIn no_vars hd u buf used) (o.1 ∙ ap tuple (closed-nums o.0 all)) (closed-term h c),
    )

module _ {hd : Header} {t : Term} {buf : List ℕ} {used : ℕ} (h : TermIn all_vars hd t buf used) (l : length buf ≤ 16384) (store : List ℕ) where
  pub result-six : (length store ≡ hd.k → ⊥) → Results buf used store 6 store
  result-six n = result_row buf used store 6 (six-first h l store n _) (λ z. omega (arith, z))

  pub result-seven : length store ≡ hd.k → closed t ≡ false → Results buf used store 7 store
  result-seven e c = result_row buf used store 7 (result-first h l store e ∙ first-applies 7 (not (closed t)) _ (ap not c)) (λ z. omega (arith, z))

  pub result-eight : length store ≡ hd.k → closed t ≡ true → finished_term t ≡ false → Results buf used store 8 store
  result-eight e c f =
      result_row buf used store 8
      (result-first h l store e ∙ first-skips 7 (not (closed t)) _ (not-intro c) ∙ first-applies 8 (not (finished_term t)) [] (ap not f))
      (λ z. omega (arith, z))

pub result-zero : {hd : Header} {vs buf : List ℕ} {used : ℕ} (h : TermIn no_vars hd (tuple (map num vs)) buf used) → length buf ≤ 16384 → (store : List ℕ) → length store ≡ hd.k
    → (after : List ℕ) → after ≡ vs → Results buf used store 0 after
result-zero {hd} {vs} {buf} {used} h l store e after a =
    results-are buf used store 0 after (result-gives h l store e ∙ ap (λ (s : List ℕ). record { number = 0; store = s }) (sym a))
