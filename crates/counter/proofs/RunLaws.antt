-- One law for each way out of the run: a refusal, and the run of what is accepted.
use Prim.Native.Nat.{◌+◌, ◌≤◌, ℕ}
use mathlib.Core.Path.{ap, refl, subst, sym, ◌∙◌, ◌≡◌}
use mathlib.Core.List.{List}
use lib.ListN.{length}
use native.Mathlib.Omega.{arith}
use Rattle.buffer.specs.LittleEndian.{Bytes}
use Rattle.record.specs.declared.Header.{Header}
use Rattle.record.specs.Header.{contents_at, header_in}
use Rattle.record.specs.Rows.{first_row, header_of}
use Rattle.record.proofs.RowLaws.{first-none}
use Rattle.rules.specs.Scope.{BlockWithin}
use Rattle.rules.specs.Syntax.{Block}
use Rattle.run.specs.declared.RunEnd.{RunEnd}
use Rattle.run.specs.RunAnswer.{refusal}
use Rattle.place.proofs.WholeLaws.{program-at, program-used}
use Rattle.counting.specs.Counting.{State}
use Rattle.counting.specs.CountingCall.{CountingCall, counted_to, counting_rows, counts, run_counting}
use Rattle.counting.specs.CountingMeaning.{Passes}
use Rattle.counting.specs.Held.{canonical}
use Rattle.counting.specs.StateWords.{encode_state, held_from, packed, unpacked}
use Rattle.counting.proofs.CountingMeaningLaws.{rows_pass}
use Rattle.counting.proofs.CountingRanLaws.{counting-is, counting-refused, passes-as-read, passes_of}
use Rattle.counting.proofs.StateWordsLaws.{encode-decode, held-encode}
use Rattle.count_step.specs.Inner.{Holds}
use Rattle.count_run.specs.Gives.{Gives}

module _ (buf : List ℕ) (used : ℕ) (words store : List ℕ) (n : ℕ) (first : n ≡ first_row (counting_rows buf used words store)) where
  -- a refusal is by the first row that applies, and nothing has changed
  pub refuses : (budget : ℕ) → (n ≡ 0 → ⊥)
      → (refusal n ≡ (run_counting buf used words store budget).answer) × (words ≡ (run_counting buf used words store budget).words) × (store ≡ (run_counting buf used words store budget).store)
  refuses budget h =
      let is : run_counting buf used words store budget ≡ record { answer = refusal n; words = words; store = store } =
      counting-refused buf used words store budget (λ z. h (first ∙ z)) ∙ ap (λ (m : ℕ). record { answer = refusal m; words = words; store = store }) (sym first) in
      (ap (λ (c : CountingCall). c.answer) (sym is), ap (λ (c : CountingCall). c.words) (sym is), ap (λ (c : CountingCall). c.store) (sym is))

  module _ (z : n ≡ 0) (bytes : Bytes buf) where
    passed : (P : Block) × (s : State) × Passes (header_of buf used) P buf used words store s
    passed = rows_pass buf used words store bytes (first-none (counting_rows buf used words store) refl (sym first ∙ z))

    pub accepts : (h : Header) → h ≡ header_in buf → (P : Block) × (s : State) × Passes h P buf used words store s
    accepts h e = (passed.0, passed.1, passes-as-read passed.2 h e)

pub accepted-gives : {h : Header} {P : Block} {buf : List ℕ} {used : ℕ} {words store : List ℕ} {s : State} (a : Passes h P buf used words store s) (budget : ℕ)
    (r : RunEnd) (words₁ store₁ : List ℕ) → Gives r words₁ store₁ (counted_to P budget (counts h budget (record { state = s; store = store }))) → Gives r words₁ store₁ (run_counting buf used words store budget)
accepted-gives a budget r words₁ store₁ = subst (Gives r words₁ store₁) (sym (counting-is a budget))

-- WHAT THE RUN LOOP ASKS, of canonical words
module _ {h : Header} {P : Block} {buf : List ℕ} {used : ℕ} {words store : List ℕ} {s : State} (a : Passes h P buf used words store s) (ws : List ℕ) (c : ws ≡ packed (canonical (unpacked words))) where
  held_same : ws ≡ encode_state P s
  held_same = c ∙ sym (encode-decode P s words a.state)

  pub holds : (start : ℕ) → start ≡ contents_at h + 4 → (n : ℕ) → n ≡ length (held_from ws 3 31) → Holds start used n P s buf ws (length store)
  holds start e n q = record {
    stands = rw e (program-at a.program a.low);
    ends = omega (arith, program-used a.program, e);
    low = a.low;
    scope = subst (λ (k : ℕ). BlockWithin k P) (sym a.count) a.program.is_program.variables;
    deep = a.deep;
    of = passes_of a;
    many = q ∙ ap (λ (l : List ℕ). length (held_from l 3 31)) held_same ∙ held-encode P s (passes_of a) a.deep;
    same = held_same;
  }

-- the first command's index is no large number
pub start-low : {h : Header} {P : Block} {buf : List ℕ} {used : ℕ} {words store : List ℕ} {s : State} → Passes h P buf used words store s → contents_at h + 4 ≤ 16384
start-low a = omega (arith, program-used a.program, a.program.within, a.low)
