-- Laws of translate, read back, substitute and result.
use Prim.Native.Nat.{◌+◌, ◌<◌, suc, zero, ℕ, ◌≤◌}
use mathlib.Core.Path.{ap, ap₂, refl, subst, sym, ◌∙◌, ◌≡◌}
use mathlib.Core.Logic.{inl, inr, ◌↔◌, ◌⊎◌}
use mathlib.Core.Bool.{Bool, false, not, true, ◌||◌}
use mathlib.Core.List.{List, [], ◌∷◌}
use mathlib.Core.Option.{Option, none, some}
use borrow.Author.Tests.{leb-false, leb-true}
use lib.Dec.{leb}
use lib.ListN.{length, take}
use native.Mathlib.Omega.{arith}
use Rattle.record.specs.Answers.{Wrote, check_term_rows, padded, too_short}
use Rattle.record.specs.declared.Header.{Header}
use Rattle.record.specs.Header.{HeaderFits, contents_at, encode_program, encode_term, ok_of}
use Rattle.record.specs.Holding.{ProgramIn, TermIn}
use Rattle.record.specs.Rows.{bad_buffer, bad_store, finished_term, first_row, open_term, row, store_rows, the_term_of, too_long, unfinished}
use Rattle.rules.specs.FreeVariables.{Vars, all_vars, closed}
use Rattle.rules.specs.ReadBack.{read_back}
use Rattle.rules.specs.Replaced.{replaced}
use Rattle.rules.specs.Sound.{SmallValues}
use Rattle.rules.specs.Substitution.{from_store, substitute}
use Rattle.rules.specs.Syntax.{Block, Term, empty}
use Rattle.rules.specs.Translation.{translate}
use Rattle.record.proofs.AnswerLaws.{fits_out, short-out, stored-number, stored_refused, wrote-accepted, wrote-number, wrote-refused}
use Rattle.record.proofs.PaddedLaws.{length-padded}
use Rattle.record.proofs.HeaderLaws.{length-encode_term, ok-limit}
use Rattle.record.proofs.HeldLaws.{not-long, short-buffer, store-good, values-good}
use Rattle.record.proofs.HoldingLaws.{padded-term, program-first, program-header, program-is, store-size, store-values, term-first, term-header, term_is, term-k, term-open, term-passes, term-size, term-unfinished}
use Rattle.record.proofs.RowLaws.{first-applies, first-none, first-skips, is_none-none, is_none-some, none_first, none-split, or-false, or_right, or_else-some}
use Rattle.record.proofs.SizeLaws.{term_size-substitute}
use Rattle.rules.proofs.ReadBackLaws.{read_back-translate, translate-read_back}
use Rattle.rules.proofs.SoundTermLaws.{sound-translate}
use Rattle.term.specs.Calls.{no_source, numerals, read_back_call, read_back_rows, result_call, result_rows, source_bytes, source_of, substitute_call, substitute_rows, substituted, substituted_by, translate_call, translate_rows, translated}

-- NUMBERS AND REFUSALS

pub translate-number : (src : List ℕ) (used : ℕ) (out : List ℕ) → (translate_call src used out).number ≡ first_row (translate_rows src used out)
unfolding translate_call
translate-number src used out = wrote-number (first_row (translate_rows src used out)) (translated src used) out

pub translate-refused : (src : List ℕ) (used : ℕ) (out : List ℕ) → (first_row (translate_rows src used out) ≡ 0 → ⊥)
    → translate_call src used out ≡ record { number = first_row (translate_rows src used out); used = 0; written = out }
unfolding translate_call
translate-refused src used out h = wrote-refused (first_row (translate_rows src used out)) (translated src used) out h

pub read_back-number : (src : List ℕ) (used : ℕ) (out : List ℕ) → (read_back_call src used out).number ≡ first_row (read_back_rows src used out)
unfolding read_back_call
read_back-number src used out = wrote-number (first_row (read_back_rows src used out)) (source_bytes src used) out

pub read_back-refused : (src : List ℕ) (used : ℕ) (out : List ℕ) → (first_row (read_back_rows src used out) ≡ 0 → ⊥)
    → read_back_call src used out ≡ record { number = first_row (read_back_rows src used out); used = 0; written = out }
unfolding read_back_call
read_back-refused src used out h = wrote-refused (first_row (read_back_rows src used out)) (source_bytes src used) out h

-- the form of substitute's answer

substituted-number : (m : ℕ) (bytes : List ℕ) (n : ℕ) (buf : List ℕ) → (substituted_by m bytes n buf).number ≡ m
unfolding substituted_by
substituted-number zero bytes n buf = refl
substituted-number (suc m) bytes n buf = refl

substituted-accepted : (m : ℕ) (bytes : List ℕ) (n : ℕ) (buf : List ℕ) → m ≡ 0
    → substituted_by m bytes n buf ≡ record { number = 0; used = length bytes; replaced = n; written = padded (length buf) bytes }
unfolding substituted_by
substituted-accepted m bytes n buf e = rw e refl

substituted-refused : (m : ℕ) (bytes : List ℕ) (n : ℕ) (buf : List ℕ) → (m ≡ 0 → ⊥) → substituted_by m bytes n buf ≡ record { number = m; used = 0; replaced = 0; written = buf }
unfolding substituted_by
substituted-refused zero bytes n buf h = absurd (h refl)
substituted-refused (suc m) bytes n buf h = refl

pub substitute-number : (buf : List ℕ) (used : ℕ) (store : List ℕ) → (substitute_call buf used store).number ≡ first_row (substitute_rows buf used store)
unfolding substitute_call
substitute-number buf used store = substituted-number (first_row (substitute_rows buf used store)) (substituted buf used store) _ buf

pub substitute-refused : (buf : List ℕ) (used : ℕ) (store : List ℕ) → (first_row (substitute_rows buf used store) ≡ 0 → ⊥)
    → substitute_call buf used store ≡ record { number = first_row (substitute_rows buf used store); used = 0; replaced = 0; written = buf }
unfolding substitute_call
substitute-refused buf used store h = substituted-refused (first_row (substitute_rows buf used store)) (substituted buf used store) _ buf h

pub result-number : (buf : List ℕ) (used : ℕ) (store : List ℕ) → (result_call buf used store).number ≡ first_row (result_rows buf used store)
unfolding result_call
result-number buf used store = stored-number (first_row (result_rows buf used store)) (numerals (the_term_of buf used)) store

pub result-refused : (buf : List ℕ) (used : ℕ) (store : List ℕ) → (first_row (result_rows buf used store) ≡ 0 → ⊥)
    → result_call buf used store ≡ record { number = first_row (result_rows buf used store); store = store }
unfolding result_call
result-refused buf used store h = stored_refused (first_row (result_rows buf used store)) (numerals (the_term_of buf used)) store h

-- an accepted translation's output buffer is not too long, and an accepted substitution's store has k values, none above the ceiling
pub translate-out : (src : List ℕ) (used : ℕ) (out : List ℕ) → (translate_call src used out).number ≡ 0 → length out ≤ 16384
translate-out src used out z =
    let r = first-none (translate_rows src used out) refl (sym (translate-number src used out) ∙ z) in
    short-buffer out (or-false (bad_buffer src used) (too_long out) r.0).1

pub stored-size : (hd : Header) (t : Term) (buf : List ℕ) (used : ℕ) (store : List ℕ) → HeaderFits hd → take used buf ≡ encode_term hd t
    → (substitute_call buf used store).number ≡ 0 → length store ≡ hd.k
stored-size hd t buf used store f held z =
    let r = first-none (substitute_rows buf used store) refl (sym (substitute-number buf used store) ∙ z) in
    store-size hd t buf used store f held (none-split (check_term_rows buf used) (store_rows buf used store []) r).1.0

pub stored-values : (hd : Header) (t : Term) (buf : List ℕ) (used : ℕ) (store : List ℕ) → HeaderFits hd → take used buf ≡ encode_term hd t
    → (substitute_call buf used store).number ≡ 0 → SmallValues (ok_of hd) store
stored-values hd t buf used store f held z =
    let r = first-none (substitute_rows buf used store) refl (sym (substitute-number buf used store) ∙ z) in
    store-values hd t buf used store f held (none-split (check_term_rows buf used) (store_rows buf used store []) r).1.1.0

-- TRANSLATE, of a program in a buffer

module _ {hd : Header} {P : Block} {src : List ℕ} {used : ℕ} (h : ProgramIn hd P src used) (l : length src ≤ 16384) (out : List ℕ) (lo : length out ≤ 16384) where
  pub translated-is : translated src used ≡ encode_term hd (translate hd.k P)
  translated-is = ap₂ (λ (x : Header) (b : Block). encode_term x (translate x.k b)) (program-header h) (program-is h l)

  translate-first : first_row (translate_rows src used out) ≡ first_row (row 10 (too_short out (translated src used)) ∷ [])
  translate-first = program-first h l (bad_buffer src used || too_long out) (or_right (bad_buffer src used) (too_long out) (not-long out lo)) (row 10 (too_short out (translated src used)) ∷ [])

  pub translate-fits : length (encode_term hd (translate hd.k P)) ≤ length out
      → translate_call src used out ≡ record { number = 0; used = length (encode_term hd (translate hd.k P)); written = padded (length out) (encode_term hd (translate hd.k P)) }
  unfolding translate_call
  translate-fits f =
      let z : first_row (translate_rows src used out) ≡ 0 =
      translate-first ∙ none_first (row 10 (too_short out (translated src used)) ∷ []) (rw translated-is (fits_out out (encode_term hd (translate hd.k P)) f), tt) in
      wrote-accepted (first_row (translate_rows src used out)) (translated src used) out z
      ∙ ap (λ (b : List ℕ). record { number = 0; used = length b; written = padded (length out) b }) translated-is

  pub translate-long : length out < length (encode_term hd (translate hd.k P)) → (translate_call src used out).number ≡ 10
  translate-long f =
      translate-number src used out ∙ translate-first
      ∙ first-applies 10 (too_short out (translated src used)) [] (rw translated-is (short-out out (encode_term hd (translate hd.k P)) f))

  -- accepted only where it fits
  translate-roomy : (translate_call src used out).number ≡ 0 → length (encode_term hd (translate hd.k P)) ≤ length out
  translate-roomy z = go (leb (length (encode_term hd (translate hd.k P))) (length out)) refl
    where
      go : (b : Bool) → leb (length (encode_term hd (translate hd.k P))) (length out) ≡ b → length (encode_term hd (translate hd.k P)) ≤ length out
      go true e = leb-true (length (encode_term hd (translate hd.k P))) (length out) e
      go false e = absurd (omega (arith, sym (translate-long (leb-false (length (encode_term hd (translate hd.k P))) (length out) e)) ∙ z))

  -- what an accepted translation writes
  pub translate-writes : (translate_call src used out).number ≡ 0
      → translate_call src used out ≡ record { number = 0; used = length (encode_term hd (translate hd.k P)); written = padded (length out) (encode_term hd (translate hd.k P)) }
  translate-writes z = translate-fits (translate-roomy z)

  -- and the term that stands in the output buffer
  pub translate-holds : (translate_call src used out).number ≡ 0
      → TermIn all_vars hd (translate hd.k P) (padded (length out) (encode_term hd (translate hd.k P))) (length (encode_term hd (translate hd.k P)))
  translate-holds z = padded-term all_vars hd (translate hd.k P) (length out) h.header (sound-translate (ok_of hd) (ok-limit hd) hd.k P h.is_program.variables h.is_program.literals)

  pub translate-length : (translate_call src used out).number ≡ 0 → length (padded (length out) (encode_term hd (translate hd.k P))) ≡ length out
  translate-length z = length-padded (length out) (encode_term hd (translate hd.k P)) (translate-roomy z)

-- SUBSTITUTE, RESULT AND READ BACK, of a term in a buffer

module _ {S : Vars} {hd : Header} {t : Term} {buf : List ℕ} {used : ℕ} (h : TermIn S hd t buf used) where
  pub substitute-size : (store : List ℕ) → length (encode_term hd (substitute (from_store store) t)) ≡ used
  substitute-size store =
      length-encode_term hd (substitute (from_store store) t) ∙ ap (λ (n : ℕ). contents_at hd + (4 + n)) (term_size-substitute (from_store store) t) ∙ sym (length-encode_term hd t) ∙ sym (term-size h)

module _ {S : Vars} {hd : Header} {t : Term} {buf : List ℕ} {used : ℕ} (h : TermIn S hd t buf used) (l : length buf ≤ 16384) where
  substituted-is : (store : List ℕ) → substituted buf used store ≡ encode_term hd (substitute (from_store store) t)
  substituted-is store = ap₂ (λ (x : Header) (u : Term). encode_term x (substitute (from_store store) u)) (term-header h) (term_is h l)

  pub substitute-gives : (store : List ℕ) → length store ≡ hd.k → SmallValues (ok_of hd) store
      → substitute_call buf used store
      ≡ record { number = 0; used = used; replaced = replaced (from_store store) t; written = padded (length buf) (encode_term hd (substitute (from_store store) t)) }
  unfolding substitute_call
  substitute-gives store e v =
      let z : first_row (substitute_rows buf used store) ≡ 0 =
      none_first (substitute_rows buf used store) (term-passes h l (store_rows buf used store []) (
        store-good buf used store (e ∙ sym (term-k h)),
        (values-good buf used store (subst (λ (x : Header). SmallValues (ok_of x) store) (sym (term-header h)) v), tt),
      )) in
      let filled : List ℕ = padded (length buf) (encode_term hd (substitute (from_store store) t)) in
      substituted-accepted (first_row (substitute_rows buf used store)) (substituted buf used store) _ buf z
      ∙ ap₂ (λ (b : List ℕ) (u : Term). record { number = 0; used = length b; replaced = replaced (from_store store) u; written = padded (length buf) b }) (substituted-is store) (term_is h l)
      ∙ ap (λ (n : ℕ). record { number = 0; used = n; replaced = replaced (from_store store) t; written = filled }) (substitute-size h store)

  -- the first row of result's that applies is among 7 and 8
  pub result-first : (store : List ℕ) → length store ≡ hd.k → first_row (result_rows buf used store) ≡ first_row (row 7 (not (closed t)) ∷ row 8 (not (finished_term t)) ∷ [])
  result-first store e =
      term-first h l (bad_buffer buf used) refl (row 6 (bad_store buf used store) ∷ row 7 (open_term buf used) ∷ row 8 (unfinished buf used) ∷ [])
      ∙ first-skips 6 _ _ (store-good buf used store (e ∙ sym (term-k h)))
      ∙ ap₂ (λ a b. first_row (row 7 a ∷ row 8 b ∷ [])) (term-open h l) (term-unfinished h l)

  -- READ BACK

  pub source_is : source_of buf used ≡ read_back hd.k t
  source_is = ap₂ read_back (term-k h) (term_is h l)

  module _ (out : List ℕ) (lo : length out ≤ 16384) where
    read_back-first : first_row (read_back_rows buf used out) ≡ first_row (row 9 (no_source buf used) ∷ row 10 (too_short out (source_bytes buf used)) ∷ [])
    read_back-first = term-first h l (bad_buffer buf used || too_long out) (or_right (bad_buffer buf used) (too_long out) (not-long out lo)) (row 9 (no_source buf used) ∷ row 10 (too_short out (source_bytes buf used)) ∷ [])

    pub read_back-none : read_back hd.k t ≡ none → (read_back_call buf used out).number ≡ 9
    unfolding no_source
    read_back-none e =
        read_back-number buf used out ∙ read_back-first ∙ first-applies 9 (no_source buf used) _ (is_none-none (source_of buf used) (source_is ∙ e))

    module _ (P : Block) (e : read_back hd.k t ≡ some P) where
      source_bytes-is : source_bytes buf used ≡ encode_program hd P
      source_bytes-is = ap₂ encode_program (term-header h) (or_else-some empty (source_of buf used) P (source_is ∙ e))

      read_back-some : first_row (read_back_rows buf used out) ≡ first_row (row 10 (too_short out (source_bytes buf used)) ∷ [])
      unfolding no_source
      read_back-some = read_back-first ∙ first-skips 9 (no_source buf used) _ (is_none-some (source_of buf used) P (source_is ∙ e))

      pub read_back-fits : length (encode_program hd P) ≤ length out
          → read_back_call buf used out ≡ record { number = 0; used = length (encode_program hd P); written = padded (length out) (encode_program hd P) }
      unfolding read_back_call
      read_back-fits f =
          let z : first_row (read_back_rows buf used out) ≡ 0 =
          read_back-some ∙ none_first (row 10 (too_short out (source_bytes buf used)) ∷ []) (rw source_bytes-is (fits_out out (encode_program hd P) f), tt) in
          wrote-accepted (first_row (read_back_rows buf used out)) (source_bytes buf used) out z
          ∙ ap (λ (b : List ℕ). record { number = 0; used = length b; written = padded (length out) b }) source_bytes-is

      pub read_back-long : length out < length (encode_program hd P) → (read_back_call buf used out).number ≡ 10
      read_back-long f =
          read_back-number buf used out ∙ read_back-some
          ∙ first-applies 10 (too_short out (source_bytes buf used)) [] (rw source_bytes-is (short-out out (encode_program hd P) f))

      -- accepted only where it fits
      pub read_back-roomy : (read_back_call buf used out).number ≡ 0 → length (encode_program hd P) ≤ length out
      read_back-roomy z = go (leb (length (encode_program hd P)) (length out)) refl
        where
          go : (b : Bool) → leb (length (encode_program hd P)) (length out) ≡ b → length (encode_program hd P) ≤ length out
          go true q = leb-true (length (encode_program hd P)) (length out) q
          go false q = absurd (omega (arith, sym (read_back-long (leb-false (length (encode_program hd P)) (length out) q)) ∙ z))

      read_back-either : (b : Bool) → leb (length (encode_program hd P)) (length out) ≡ b
          → ((read_back_call buf used out).number ≡ 0) ⊎ ((read_back_call buf used out).number ≡ 10)
      read_back-either true q = inl (ap (λ (w : Wrote). w.number) (read_back-fits (leb-true (length (encode_program hd P)) (length out) q)))
      read_back-either false q = inr (read_back-long (leb-false (length (encode_program hd P)) (length out) q))

    -- 0 or 10 exactly where some program translates to the term, and 9 exactly where none does
    read-from : (P : Block) → translate hd.k P ≡ t → read_back hd.k t ≡ some P
    read-from P p = ap (read_back hd.k) (sym p) ∙ read_back-translate hd.k P

    pub reads-back : (((read_back_call buf used out).number ≡ 0) ⊎ ((read_back_call buf used out).number ≡ 10)) ↔ ((P : Block) × (translate hd.k P ≡ t))
    reads-back = (
      (λ v. go (read_back hd.k t) refl v),
      (λ p. read_back-either p.0 (read-from p.0 p.1) (leb (length (encode_program hd p.0)) (length out)) refl),
    )
      where
        nine : read_back hd.k t ≡ none → ((read_back_call buf used out).number ≡ 0) ⊎ ((read_back_call buf used out).number ≡ 10) → ⊥
        nine e (inl z) = omega (arith, sym (read_back-none e) ∙ z)
        nine e (inr z) = omega (arith, sym (read_back-none e) ∙ z)

        go : (o : Option Block) → read_back hd.k t ≡ o → ((read_back_call buf used out).number ≡ 0) ⊎ ((read_back_call buf used out).number ≡ 10) → (P : Block) × (translate hd.k P ≡ t)
        go none e v = absurd (nine e v)
        go (some P) e v = (P, translate-read_back hd.k t P e)

    pub reads_none : ((read_back_call buf used out).number ≡ 9) ↔ ((P : Block) → translate hd.k P ≡ t → ⊥)
    reads_none = ((λ z P p. either (reads-back.1 (P, p)) z), (λ n. go n (read_back hd.k t) refl))
      where
        either : ((read_back_call buf used out).number ≡ 0) ⊎ ((read_back_call buf used out).number ≡ 10) → (read_back_call buf used out).number ≡ 9 → ⊥
        either (inl a) z = omega arith
        either (inr a) z = omega arith

        go : ((P : Block) → translate hd.k P ≡ t → ⊥) → (o : Option Block) → read_back hd.k t ≡ o → (read_back_call buf used out).number ≡ 9
        go n none e = read_back-none e
        go n (some P) e = absurd (n P (translate-read_back hd.k t P e))
