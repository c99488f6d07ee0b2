-- The engines take every store of k values that pass, and with it demand 3 starts.
use Prim.Native.Nat.{◌<◌, ℕ, ◌≤◌}
use mathlib.Core.Path.{ap, refl, subst, sym, ◌∙◌, ◌≡◌}
use mathlib.Core.List.{List}
use lib.ListN.{length, replicate, take}
use native.Mathlib.Omega.{arith}
use Rattle.counting.specs.Counting.{start as begin}
use Rattle.counting.specs.CountingCall.{counting_rows, run_counting}
use Rattle.counting.specs.CountingMeaning.{Passes}
use Rattle.counting.specs.Depth.{nesting}
use Rattle.counting.proofs.CountingRanLaws.{counting-number, counting-passes}
use Rattle.counting.proofs.StateWordsLaws.{decode-start}
use Rattle.record.specs.Answers.{Checked, Wrote, check_program, padded}
use Rattle.record.specs.declared.Header.{Header}
use Rattle.record.specs.Header.{encode_program, encode_term, largest_of, ok_of}
use Rattle.record.specs.Holding.{ProgramIn, TermIn}
use Rattle.record.specs.Program.{BlockWords}
use Rattle.rules.specs.FreeVariables.{all_vars, no_vars}
use Rattle.rules.specs.Replaced.{replaced}
use Rattle.rules.specs.Sound.{SmallValues, SoundTerm}
use Rattle.rules.specs.Substitution.{from_store, state_of, substitute}
use Rattle.rules.specs.Syntax.{Block, Term}
use Rattle.rules.specs.Translation.{translate}
use Rattle.reducer.specs.RunReducer.{run_reducer}
use Rattle.term.specs.Calls.{Substituted, substitute_call, translate_call}
use Rattle.record.proofs.HeaderLaws.{ok-limit}
use Rattle.record.proofs.HoldingLaws.{checked-fits, checked-holds, checked-low, padded-term, program-elsewhere}
use Rattle.record.proofs.PaddedLaws.{length-padded}
use Rattle.record.proofs.RowLaws.{none_first}
use Rattle.reducer.proofs.RunReducerLaws.{reducer-number, reducer-passes}
use Rattle.rules.proofs.SoundTermLaws.{sound-state_of, sound-translate}
use Rattle.stepper.proofs.RunStepperLaws.{stepper-number, stepper-passes}
use Rattle.term.proofs.CallLaws.{substitute-gives, substitute-size, translate-holds, translate-length, translate-out, translate-writes}
use Rattle.agreement.specs.Demand3.{Start}
use Rattle.agreement.specs.WeighedStore.{EnginesTake, TermLent}

-- OF A PROGRAM that the checker accepts
module _ (h : Header) (P : Block) (cb : List ℕ) (cu : ℕ) (checked : check_program cb cu ≡ record { number = 0; k = h.k })
    (program : take cu cb ≡ encode_program h P) (words : BlockWords P) (word : largest_of h < 4294967296) where
  accepted : (check_program cb cu).number ≡ 0
  accepted = ap (λ (c : Checked). c.number) checked

  pub program-holds : ProgramIn h P cb cu
  program-holds = checked-holds h P cb cu (checked-fits h cb cu checked word) accepted program words

  pub translates : (out : List ℕ) → (translate_call cb cu out).number ≡ 0 → TermLent h P (translate_call cb cu out).written (translate_call cb cu out).used
  translates out z =
      let low = checked-low cb cu accepted in
      let lo = translate-out cb cu out z in
      let t = translate-holds program-holds low out lo z in
      subst (λ (w : Wrote). TermLent h P w.written w.used) (sym (translate-writes program-holds low out lo z))
      (record { low = omega (arith, lo, translate-length program-holds low out lo z); within = t.within; bytes = t.bytes })

  -- OF A STORE of k values that pass
  module _ (μ : List ℕ) (size : length μ ≡ h.k) (values : SmallValues (ok_of h) μ) where
    -- the program's term with the store substituted
    abbrev closed_term : Term
    closed_term = substitute (from_store μ) (translate h.k P)

    closed-sound : SoundTerm (ok_of h) h.k no_vars closed_term
    unfolding state_of
    closed-sound = sound-state_of (ok_of h) (ok-limit h) h.k (record { block = P; store = μ }) (record {
      variables = record { block = program-holds.is_program.variables; size = size };
      literals = program-holds.is_program.literals;
      values = values;
    })

    module _ (buf : List ℕ) (used : ℕ) (t : TermLent h P buf used) where
      term : TermIn all_vars h (translate h.k P) buf used
      term = record {
        within = t.within;
        header = program-holds.header;
        bytes = t.bytes;
        sound = sound-translate (ok_of h) (ok-limit h) h.k P program-holds.is_program.variables program-holds.is_program.literals;
      }

      gives : substitute_call buf used μ ≡ record { number = 0; used = used; replaced = replaced (from_store μ) (translate h.k P); written = padded (length buf) (encode_term h closed_term) }
      gives = substitute-gives term t.low μ size values

      closed_in : TermIn no_vars h closed_term (padded (length buf) (encode_term h closed_term)) used
      closed_in =
          subst (λ (n : ℕ). TermIn no_vars h closed_term (padded (length buf) (encode_term h closed_term)) n) (substitute-size term μ)
          (padded-term no_vars h closed_term (length buf) program-holds.header closed-sound)

      closed-low : length (padded (length buf) (encode_term h closed_term)) ≤ 16384
      closed-low =
          let room : length (encode_term h closed_term) ≤ length buf = omega (arith, substitute-size term μ, t.within) in
          omega (arith, length-padded (length buf) (encode_term h closed_term) room, t.low)

      reduces : (budget : ℕ) → (run_reducer (substitute_call buf used μ).written (substitute_call buf used μ).used budget).answer.number ≡ 0
      reduces budget =
          subst (λ (w : Substituted). (run_reducer w.written w.used budget).answer.number ≡ 0) (sym gives)
          (reducer-number (padded (length buf) (encode_term h closed_term)) used budget ∙ reducer-passes closed_in closed-low)

      left : take (substitute_call buf used μ).used (substitute_call buf used μ).written ≡ encode_term h closed_term
      left = subst (λ (w : Substituted). take w.used w.written ≡ encode_term h closed_term) (sym gives) closed_in.bytes

      start : (stepper_buf : List ℕ) → take cu stepper_buf ≡ take cu cb
          → (reducer_buf : List ℕ) → (substitute_call buf used μ).used ≤ length reducer_buf
          → take (substitute_call buf used μ).used reducer_buf ≡ take (substitute_call buf used μ).used (substitute_call buf used μ).written
          → Start h P μ
      start stepper_buf begins reducer_buf room same = record {
        check_buf = cb;
        check_used = cu;
        checked = checked;
        program = program;
        program_words = words;
        ceiling_word = word;
        term_buf = buf;
        term_used = used;
        term = t.bytes;
        substituted = ap (λ (w : Substituted). w.number) gives;
        stepper_buf = stepper_buf;
        stepper_begins = begins ∙ program;
        reducer_buf = reducer_buf;
        reducer_used = (substitute_call buf used μ).used;
        reducer_fits = room;
        reducer_begins = same ∙ left;
      }

    -- the counting stepper, from the words of the start
    counts : (buf : List ℕ) (budget : ℕ) → length buf ≤ 16384 → take cu buf ≡ take cu cb → nesting P ≤ 32 → (run_counting buf cu (replicate 189 0) μ budget).answer.number ≡ 0
    counts buf budget l e deep =
        let lent : Passes h P buf cu (replicate 189 0) μ (begin P) = record {
          program = program-elsewhere program-holds buf (e ∙ program);
          low = l;
          deep = deep;
          count = size;
          state = decode-start P;
          values = values;
          small = tt;
        } in
        counting-number buf cu (replicate 189 0) μ budget
        ∙ none_first (counting_rows buf cu (replicate 189 0) μ) (counting-passes lent)

    pub engines-take : EnginesTake h P cb cu μ
    unfolding start
    engines-take = record {
      stepper = λ buf budget l e. stepper-number buf cu μ budget ∙ stepper-passes (program-elsewhere program-holds buf (e ∙ program)) l μ size values;
      counting = counts;
      substitutes = λ buf used t. ap (λ (w : Substituted). w.number) (gives buf used t);
      translates = translates;
      reducer = reduces;
      start = λ buf used t stepper_buf e reducer_buf l same. (start buf used t stepper_buf e reducer_buf l same, refl);
    }
