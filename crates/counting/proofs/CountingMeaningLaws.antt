-- What the counting stepper's rows, steps and calls mean.
use Prim.Native.Nat.{◌+◌, ◌-◌, ◌≤◌, suc, zero, ℕ}
use mathlib.Core.Path.{ap, refl, subst, sym, ◌∙◌, ◌≡◌}
use mathlib.Core.Logic.{◌↔◌}
use mathlib.Core.List.{List, [], ◌∷◌}
use mathlib.Core.Option.{some-injective, some}
use lib.ListN.{get_or}
use native.Mathlib.Omega.{arith}
use Rattle.buffer.specs.LittleEndian.{Bytes}
use Rattle.record.specs.declared.Header.{Header}
use Rattle.record.specs.Header.{ok_of}
use Rattle.record.specs.Rows.{NoRow, bad_buffer, block_above, header_of, program_rows, row}
use Rattle.record.proofs.HoldingLaws.{passes-program}
use Rattle.record.proofs.RowLaws.{none_both, none_first, none-split}
use Rattle.rules.specs.Run.{iterate}
use Rattle.rules.specs.Syntax.{Block, assign, empty, loop, nest}
use Rattle.rules.proofs.Tests.{iff-beside}
use Rattle.counting.specs.CountStep.{count_step}
use Rattle.counting.specs.Counting.{Counting, State, expand, start}
use Rattle.counting.specs.CountingCall.{counting_rows, run_counting, state_rows}
use Rattle.counting.specs.CountingMeaning.{CountingMeans, NumbersMean, Passes, opened_by}
use Rattle.counting.specs.Fault.{OpensAs}
use Rattle.counting.specs.Held.{Held, Progress, at_place, canonical, none, nothing, opening_of, phase_of, progress_of, runs, to_store}
use Rattle.counting.specs.StateWords.{encode_state, held_at, held_from, packed, unless_none, unpacked}
use Rattle.counting.proofs.CountingCallLaws.{decode-held, no-state, sixteen, thirteen, twelve}
use Rattle.counting.proofs.CountingLaws.{counting-step}
use Rattle.counting.proofs.CountingRanLaws.{counting-number, counting-passes, counting-ran, counting-rows, counting-takes, takes-passes}
use Rattle.counting.proofs.ExpandCallLaws.{expand-program, expand-ten, expand-writes}
use Rattle.counting.proofs.SmallStateLaws.{held-counts}
use Rattle.counting.proofs.StateWordsLaws.{decode-start, encode-decode}

-- WHAT THE NUMBERS STAND FOR

ends : (what : ℕ) (h : Held) (hs : List Held) → opening_of what ≡ nothing → unless_none what h hs ≡ []
unfolding opening_of unless_none
ends zero h hs e = refl
ends (suc zero) h hs e = absurd (let z : ◌≡◌ {A = ℕ} 0 1 = cc in omega arith)
ends (suc (suc zero)) h hs e = absurd (let z : ◌≡◌ {A = ℕ} 0 1 = cc in omega arith)
ends (suc (suc (suc n))) h hs e = absurd (let z : ◌≡◌ {A = ℕ} 0 1 = cc in omega arith)

goes-on : (what : ℕ) (h : Held) (hs : List Held) → (opening_of what ≡ nothing → ⊥) → unless_none what h hs ≡ h ∷ hs
unfolding opening_of unless_none
goes-on zero h hs e = absurd (e refl)
goes-on (suc what) h hs e = refl

opens : (what : ℕ) (r : Block) → (opening_of what ≡ nothing → ⊥) → OpensAs what r ↔ (opening_of what ≡ opened_by r)
unfolding opening_of
opens zero r n = absurd (n refl)
opens (suc zero) empty n = ((λ e. absurd e), (λ e. absurd (n e)))
opens (suc zero) (assign x e r) n = ((λ e. absurd e), (λ e. absurd (n e)))
opens (suc zero) (loop x b q r) n = ((λ e. absurd (omega (arith, e))), (λ e. absurd (let z : ◌≡◌ {A = ℕ} 0 1 = cc in omega arith)))
opens (suc zero) (nest q r) n = ((λ e. refl), (λ e. refl))
opens (suc (suc zero)) empty n = ((λ e. absurd e), (λ e. absurd (n e)))
opens (suc (suc zero)) (assign x e r) n = ((λ e. absurd e), (λ e. absurd (n e)))
opens (suc (suc zero)) (loop x b q r) n = ((λ e. refl), (λ e. refl))
opens (suc (suc zero)) (nest q r) n = ((λ e. absurd (omega (arith, e))), (λ e. absurd (let z : ◌≡◌ {A = ℕ} 0 1 = cc in omega arith)))
opens (suc (suc (suc m))) empty n = ((λ e. absurd e), (λ e. absurd (n e)))
opens (suc (suc (suc m))) (assign x e r) n = ((λ e. absurd e), (λ e. absurd (n e)))
opens (suc (suc (suc m))) (loop x b q r) n = ((λ e. absurd (omega (arith, e))), (λ e. absurd (let z : ◌≡◌ {A = ℕ} 0 1 = cc in omega arith)))
opens (suc (suc (suc m))) (nest q r) n = ((λ e. absurd (omega (arith, e))), (λ e. absurd (let z : ◌≡◌ {A = ℕ} 0 1 = cc in omega arith)))

runs-iff : (n : ℕ) → (1 ≤ n) ↔ (phase_of n ≡ runs)
unfolding phase_of
runs-iff zero = ((λ h. absurd (omega (arith, h))), (λ e. absurd (let z : ◌≡◌ {A = ℕ} 0 1 = cc in omega arith)))
runs-iff (suc n) = ((λ h. refl), (λ e. omega arith))

none-iff : (n : ℕ) → (n ≡ 0) ↔ (progress_of n ≡ none)
unfolding progress_of
none-iff zero = ((λ e. refl), (λ e. refl))
none-iff (suc zero) = ((λ e. absurd (omega (arith, e))), (λ e. absurd (let z : ◌≡◌ {A = ℕ} 0 1 = cc in omega arith)))
none-iff (suc (suc n)) = ((λ e. absurd (omega (arith, e))), (λ e. absurd (let z : ◌≡◌ {A = ℕ} 0 1 = cc in omega arith)))

place-iff : (n : ℕ) → (2 ≤ n) ↔ ((p : ℕ) × (progress_of n ≡ at_place p))
unfolding progress_of
place-iff zero = ((λ h. absurd (omega (arith, h))), (λ e. absurd (no_place e.0 e.1)))
  where
    no_place : (p : ℕ) → none ≡ at_place p → ⊥
    no_place p e = let z : ◌≡◌ {A = ℕ} 0 1 = cc in omega arith
place-iff (suc zero) = ((λ h. absurd (omega (arith, h))), (λ e. absurd (no_place e.0 e.1)))
  where
    no_place : (p : ℕ) → to_store ≡ at_place p → ⊥
    no_place p e = let z : ◌≡◌ {A = ℕ} 0 1 = cc in omega arith
place-iff (suc (suc n)) = ((λ h. (n, refl)), (λ e. omega arith))

place_in : Progress → ℕ
place_in none = 0
place_in to_store = 0
place_in (at_place p) = p

place_is : (n p : ℕ) → progress_of n ≡ at_place p → n - 2 ≡ p
unfolding progress_of place_in
place_is zero p e = ap place_in e
place_is (suc zero) p e = ap place_in e
place_is (suc (suc n)) p e = omega (arith, ap place_in e)

numbers-mean : NumbersMean
unfolding held_from
numbers-mean = record {
  ends = λ ws i n. ends (get_or ws i 0) (held_at ws i) (held_from ws (i + 6) n);
  goes_on = λ ws i n. goes-on (get_or ws i 0) (held_at ws i) (held_from ws (i + 6) n);
  opens = opens;
  has_body = λ h. let r = runs-iff h.running in ((λ v. (r.0 v.0, v.1)), (λ v. (r.1 v.0, v.1)));
  no_progress = λ h. none-iff h.progress;
  in_body = λ h. iff-beside (place-iff h.progress);
  place = λ h. place_is h.progress;
}

-- WHAT IS ACCEPTED, of bytes

module _ (buf : List ℕ) (used : ℕ) (words store : List ℕ) (bytes : Bytes buf) where
  pub rows_pass : NoRow (counting_rows buf used words store) → (P : Block) × (s : State) × Passes (header_of buf used) P buf used words store s
  rows_pass r =
      let q = none-split (row 1 (bad_buffer buf used) ∷ program_rows buf used []) (state_rows buf used words store []) r in
      let p = passes-program buf used bytes (none_both (row 1 (bad_buffer buf used) ∷ program_rows buf used []) (row 15 (block_above buf used) ∷ []) q.0 (q.1.1.0, tt)) in
      let t = counting-takes p.1 used words store r in
      (p.0, t.s, takes-passes p.1 used words store t t.s t.state)

  takes-iff : (budget : ℕ) → ((run_counting buf used words store budget).answer.number ≡ 0) ↔ ((P : Block) × (s : State) × Passes (header_of buf used) P buf used words store s)
  takes-iff budget = (
    (λ z. rows_pass (counting-rows buf used words store budget z)),
    (λ v. counting-number buf used words store budget ∙ none_first (counting_rows buf used words store) (counting-passes v.2)),
  )

-- THE WORDS HANDED OUT

module _ {h : Header} {P : Block} {buf : List ℕ} {used : ℕ} {words store : List ℕ} {s : State} (a : Passes h P buf used words store s) where
  hands-out : (budget : ℕ) → let r = run_counting buf used words store budget in r.words ≡ packed (canonical (unpacked r.words))
  hands-out budget = let r = counting-ran a budget in r.words ∙ encode-decode P r.c.state (run_counting buf used words store budget).words r.reads

  no-steps : let r = run_counting buf used words store 0 in (r.words ≡ packed (canonical (unpacked words))) × (r.store ≡ store)
  unfolding iterate
  no-steps =
      let r = counting-ran a 0 in
      let z : (run_counting buf used words store 0).answer.steps ≡ 0 = omega (arith, r.ran.left) in
      let c₀ : Counting = record { state = s; store = store } in
      let same : c₀ ≡ r.c = some-injective c₀ r.c (subst (λ (n : ℕ). iterate (count_step (ok_of h)) n c₀ ≡ some r.c) z r.ran.stepped) in
      (r.words ∙ ap (λ (c : Counting). encode_state P c.state) (sym same) ∙ encode-decode P s words a.state, r.values ∙ ap (λ (c : Counting). c.store) (sym same))

pub start-expands : (P : Block) → expand (start P) ≡ P
unfolding expand
start-expands P = refl

pub counting-means : CountingMeans
counting-means = record {
  numbers = numbers-mean;
  twelve = twelve;
  thirteen = thirteen;
  no_state = no-state;
  reads = decode-held;
  sixteen = λ buf used P words store s block. sixteen buf used P words store s block;
  counts = λ P words s h. held-counts P words s h.same;
  start_reads = decode-start;
  start_expands = start-expands;
  steps = λ h c. counting-step (ok_of h) c;
  expands = λ h P buf used words store s a. expand-program a;
  takes = λ buf used words store budget bytes. takes-iff buf used words store bytes budget;
  runs = λ h P buf used words store s budget a. counting-ran a budget;
  hands_out = λ h P buf used words store s budget a. hands-out a budget;
  no_steps = λ h P buf used words store s a. no-steps a;
  writes = λ h P buf used words store s out a lo. expand-writes a out lo;
  ten = λ h P buf used words store s out a lo. expand-ten a out lo;
}
