-- ADD in general, proved: its walk through the loop, with the bytes that each state takes in either engine's buffer.
use Prim.Native.Nat.{◌*◌, ◌+◌, suc, zero, ℕ, ◌≤◌}
use mathlib.Core.Path.{ap, refl, subst, sym, ◌∙◌, ◌≡◌}
use mathlib.Core.Bool.{Bool, true}
use mathlib.Core.List.{List, map}
use mathlib.Core.Option.{some}
use lib.ListN.{length, take}
use native.Mathlib.Nat.{mul-suc, mul-zero}
use native.Mathlib.Omega.{arith}
use Rattle.place.proofs.ProgramBytesLaws.{block_size-assign, block_size-empty, block_size-loop, block_size-nest}
use Rattle.place.proofs.TermBytesLaws.{size-succ, term_size-let_all, term_size-let_one, term_size-plain, term_size-rec, term_size-tuple}
use Rattle.record.specs.declared.Header.{Header}
use Rattle.record.specs.Header.{contents_at, encode_program, encode_term, largest_of, ok_of}
use Rattle.record.specs.Holding.{ProgramIn, TermIn}
use Rattle.record.specs.Program.{block_size}
use Rattle.record.specs.Term.{term_size}
use Rattle.record.proofs.HeaderLaws.{first_fits, length-encode_program, length-encode_term, ok-limit}
use Rattle.record.proofs.HeldLaws.{take-fits}
use Rattle.record.proofs.SizeLaws.{term_size-substitute}
use Rattle.reducer.specs.RunReducer.{reduced_to, reductions, run_reducer}
use Rattle.reducer.proofs.RunReducerLaws.{reducer-is}
use Rattle.rules.specs.FreeVariables.{no_vars}
use Rattle.rules.specs.Reduction.{reduce}
use Rattle.rules.specs.Rules.{at, rule1, rule3, rule4, rule5, rule6, rule7, rule8, rule9}
use Rattle.rules.specs.Run.{is_finished, iterate, outcome_of}
use Rattle.rules.specs.Scope.{BlockWithin}
use Rattle.rules.specs.Sound.{SmallValues, SoundConfig}
use Rattle.rules.specs.Step.{bound_value, step, step_block}
use Rattle.rules.specs.Store.{lookup, no_limit, update}
use Rattle.rules.specs.Substitution.{from_store, state_of, substitute}
use Rattle.rules.specs.Syntax.{Block, Bound, Config, Term, assign, empty, inc, lit, loop, nest, num, rec, ref, succ_of, tuple, upto, upto_var, var}
use Rattle.rules.specs.Translation.{all, atom_of, simple_of, translate}
use Rattle.rules.proofs.EvaluateLaws.{finishes-evaluated}
use Rattle.rules.proofs.FinishedLaws.{finished-state}
use Rattle.rules.proofs.RulesLaws.{rules-step}
use Rattle.rules.proofs.SoundTermLaws.{length-refs, sound-state_of}
use Rattle.rules.proofs.StoreLaws.{up_to-iff}
use Rattle.rules.proofs.WalkLaws.{Walk, empty-halts, here, onward, tuple-halts, walk_inside, walk-locked, walk-on, walk-reaches, walk-runs}
use Rattle.run.specs.RunAnswer.{room_for}
use Rattle.run.proofs.RanLaws.{fits-room}
use Rattle.stepper.specs.RunStepper.{run_stepper, stepped_to, steps}
use Rattle.stepper.proofs.RunStepperLaws.{stepper-is}
use Rattle.stepping.specs.State.{config_bytes}
use Rattle.agreement.specs.AddSteps.{AddSteps, add_end, add_steps, four, index_after}
use Rattle.agreement.specs.Examples.{add, of_variables}
use Rattle.agreement.proofs.ExamplesLaws.{add-lengths}

-- THE WALK

abbrev body : Block
body = assign 3 (inc 3) empty

-- n times g
unfoldable grown : ℕ → ℕ → ℕ
grown g zero = 0
grown g (suc n) = grown g n + g

-- The length of a program in an engine's buffer, by its commands. The two engines differ in e, w and l.
record Sizes (size : Block → ℕ) (e w l : ℕ) : Type 0 where
  of_empty : size empty ≡ e
  of_literal : (x n : ℕ) (r : Block) → size (assign x (lit n) r) ≡ 16 + size r
  of_plus_one : (x y : ℕ) (r : Block) → size (assign x (inc y) r) ≡ w + size r
  of_loop : (x : ℕ) (b : Bound) (p r : Block) → size (loop x b p r) ≡ l + size p + size r
  of_nest : (p r : Block) → size (nest p r) ≡ 4 + size p + size r
  low : 4 ≤ l

module _ (ok : ℕ → Bool) {size : Block → ℕ} {e w l : ℕ} (z : Sizes size e w l) where
  abbrev Roomy : ℕ → Config → Type 0
  Roomy m c = size c.block ≤ m

  body-size : size body ≡ w + e
  body-size = z.of_plus_one 3 3 empty ∙ ap (λ (y : ℕ). w + y) z.of_empty

  -- the turn q + 1, when the q turns before it are done: index, plus one, sum, and the emptied block goes
  turn-walk : (q : ℕ) (r : Block) (a b c d m : ℕ) → ok (suc c) ≡ true → 20 + (w + e) + size r ≤ m
      → Walk (step ok) (Roomy m) 4 (at (nest (assign 4 (lit (suc q)) body) r) (four a b c d)) (at r (four a b (suc c) (suc q)))
  unfolding update lookup
  turn-walk q r a b c d m small fits =
      let z₁ = z.of_nest body r in
      let z₂ = body-size in
      let z₃ = z.of_nest (assign 3 (lit (suc c)) empty) r in
      let z₄ = z.of_literal 3 (suc c) empty in
      let z₅ = z.of_nest empty r in
      let z₆ = z.of_empty in
      onward {b = at (nest body r) (four a b c (suc q))} (rules-step ok (rule7 rule3)) (omega arith)
      (onward {b = at (nest (assign 3 (lit (suc c)) empty) r) (four a b c (suc q))} (rules-step ok (rule7 (rule5 (rule1 small)))) (omega arith)
      (onward {b = at (nest empty r) (four a b (suc c) (suc q))} (rules-step ok (rule7 rule3)) (omega arith)
      (onward {b = at r (four a b (suc c) (suc q))} (rules-step ok rule6) (omega arith) here)))

  -- the loop to the rest r behind it: each turn's commands wait in the buffer while the turns before it are made, 20 + (w + e) bytes
  -- for a turn
  loop-walk : (q : ℕ) (n : Bound) (r : Block) (a b c d m : ℕ) → bound_value (four a b c d) n ≡ q → ((i : ℕ) → i ≤ c + q → ok i ≡ true)
      → l + (w + e) + grown (20 + (w + e)) q + size r ≤ m
      → Walk (step ok) (Roomy m) (2 + 5 * q) (at (loop 4 n body r) (four a b c d)) (at r (four a b (c + q) (index_after q d)))
  unfolding grown index_after bound_value
  loop-walk zero n r a b c d m h small fits =
      let z₁ = z.of_nest empty r in
      let z₂ = z.of_empty in
      let z₃ = z.low in
      subst (λ (t : ℕ). Walk (step ok) (Roomy m) 2 (at (loop 4 n body r) (four a b c d)) (at r (four a b t d))) {x = c} {y = c + 0} (omega arith)
      (onward {b = at (nest empty r) (four a b c d)} (rules-step ok (rule8 h)) (omega arith) (onward {b = at r (four a b c d)} (rules-step ok rule6) (omega arith) here))
  loop-walk (suc q) n r a b c d m h small fits =
      let i : Block = assign 4 (lit (suc q)) body in
      let g : ℕ = grown (20 + (w + e)) q in
      let zi : size i ≡ 16 + (w + e) = z.of_literal 4 (suc q) body ∙ ap (λ (y : ℕ). 16 + y) body-size in
      let zl : size (loop 4 (upto q) body i) ≡ l + (w + e) + (16 + (w + e)) = z.of_loop 4 (upto q) body i ∙ rw (body-size, zi) refl in
      let zn = z.of_nest (loop 4 (upto q) body i) r in
      let turns = loop-walk q (upto q) i a b c d (l + (w + e) + g + (16 + (w + e))) refl (λ j p. small j (omega arith)) (omega arith) in
      let inside = walk_inside ok r (Roomy (l + (w + e) + g + (16 + (w + e)))) (Roomy m) (λ s p. omega (arith, z.of_nest s.block r)) turns in
      let last = turn-walk q r a b (c + q) (index_after q d) m (small (suc (c + q)) (omega arith)) (omega arith) in
      subst (λ (t : ℕ). Walk (step ok) (Roomy m) (2 + 5 * suc q) (at (loop 4 n body r) (four a b c d)) (at r (four a b t (suc q)))) {x = suc (c + q)} {y = c + suc q} (omega arith)
      (subst (λ (j : ℕ). Walk (step ok) (Roomy m) j (at (loop 4 n body r) (four a b c d)) (at r (four a b (suc (c + q)) (suc q)))) {x = suc (2 + 5 * q + 4)} {y = 2 + 5 * suc q} (omega arith)
      (onward {b = at (nest (loop 4 (upto q) body i) r) (four a b c d)} (rules-step ok (rule9 h)) (omega arith) (walk-on (step ok) (Roomy m) inside last)))

  -- ADD to its end
  add-walk : (a b c d m : ℕ) → ((i : ℕ) → i ≤ a + b → ok i ≡ true) → l + (w + e) + grown (20 + (w + e)) b + e ≤ m
      → Walk (step ok) (Roomy m) (add_steps b) (at add (four a b c d)) (at empty (add_end a b d))
  unfolding update lookup bound_value
  add-walk a b c d m small fits =
      let z₁ = z.of_loop 4 (upto_var 2) body empty in
      let z₂ = body-size in
      let z₃ = z.of_empty in
      subst (λ (j : ℕ). Walk (step ok) (Roomy m) j (at add (four a b c d)) (at empty (add_end a b d))) {x = suc (2 + 5 * b)} {y = add_steps b} (omega arith)
      (onward {b = at (loop 4 (upto_var 2) body empty) (four a b a d)} (rules-step ok rule4) (omega arith) (loop-walk b (upto_var 2) empty a b a d m refl small (omega arith)))

-- THE TWO ENGINES' SIZES

grown-times : (g n : ℕ) → grown g n ≡ g * n
unfolding grown
grown-times g zero = sym (mul-zero g)
grown-times g (suc n) = ap (λ (y : ℕ). y + g) (grown-times g n) ∙ sym (mul-suc g n)

stepper-sizes : Sizes block_size 0 16 20
stepper-sizes = record {
  of_empty = block_size-empty;
  of_literal = λ x n r. block_size-assign x (lit n) r;
  of_plus_one = λ x y r. block_size-assign x (inc y) r;
  of_loop = block_size-loop;
  of_nest = block_size-nest;
  low = omega arith;
}

-- the record of a program's term, without the header
term_bytes : Block → ℕ
term_bytes b = 4 + term_size (translate 4 b)

reducer-sizes : Sizes term_bytes 36 20 56
unfolding term_bytes translate simple_of
reducer-sizes = record {
  of_empty = omega (arith, term_size-tuple (all 4), length-refs 1 4);
  of_literal = λ x n r. omega (arith, term_size-plain x (num n) (translate 4 r));
  of_plus_one = λ x y r. omega (arith, term_size-let_one x (succ_of (ref y)) (translate 4 r), size-succ (ref y));
  of_loop = λ x b p r. omega (arith, term_size-let_all (rec x (atom_of b) (all 4) (translate 4 p)) (translate 4 r), term_size-rec x (atom_of b) (all 4) (translate 4 p), length-refs 1 4);
  of_nest = λ p r. omega (arith, term_size-let_all (translate 4 p) (translate 4 r));
  low = omega arith;
}

-- ON THE RULES

add-finishes : (a b c d : ℕ) → iterate (step no_limit) (add_steps b) (at add (four a b c d)) ≡ some (at empty (add_end a b d))
add-finishes a b c d =
    walk-reaches (step no_limit) (Roomy no_limit stepper-sizes (36 + grown 36 b)) (add-walk no_limit stepper-sizes a b c d (36 + grown 36 b) (λ i p. refl) (omega arith))

add-no_other : (ok : ℕ → Bool) (a b c d n : ℕ) (ν : List ℕ) → iterate (step ok) n (at add (four a b c d)) ≡ some (at empty ν) → (n ≡ add_steps b) × (ν ≡ add_end a b d)
add-no_other ok a b c d n ν h =
    let g = finishes-evaluated no_limit add (four a b c d) (add_steps b) (add_end a b d) (add-finishes a b c d) in
    let f = finishes-evaluated ok add (four a b c d) n ν h in
    (f.0 ∙ sym g.0, f.1 ∙ sym g.1)

-- THE CALLS

abbrev hd : Header
hd = of_variables 4

-- where the contents of ADD's records start
contents-start : contents_at hd ≡ 8
contents-start =
    let z₁ = block_size-assign 3 (var 1) (loop 4 (upto_var 2) body empty) in
    let z₂ = block_size-loop 4 (upto_var 2) body empty in
    let z₃ = block_size-assign 3 (inc 3) empty in
    let z₄ = block_size-empty in
    omega (arith, length-encode_program hd add, add-lengths.0)

add-variables : BlockWithin 4 add
add-variables = ((omega arith, omega arith), (omega arith, omega arith), ((omega arith, omega arith), (omega arith, omega arith), ((omega arith, omega arith), (omega arith, omega arith), tt), tt))

module _ (a b c d : ℕ) (values : SmallValues (ok_of hd) (four a b c d)) (small : a + b ≤ largest_of hd) (buf : List ℕ) (short : length buf ≤ 16384) (budget : ℕ) (enough : add_steps b ≤ budget) where
  passes : (i : ℕ) → i ≤ a + b → ok_of hd i ≡ true
  passes i h = (up_to-iff (largest_of hd) i).1 (omega arith)

  sound : SoundConfig (ok_of hd) 4 (at add (four a b c d))
  sound = record { variables = record { block = add-variables; size = refl }; literals = (tt, (tt, (tt, tt), tt)); values = values }

  -- the stepper
  module _ (bytes : take 64 buf ≡ encode_program hd add) (room : 48 + 36 * b ≤ length buf) where
    holds : ProgramIn hd add buf 64
    holds = record {
      within = take-fits 64 buf (ap length bytes ∙ add-lengths.0);
      header = first_fits 4 (omega arith) (omega arith);
      bytes = bytes;
      is_program = record { variables = add-variables; literals = sound.literals };
    }

    fits : (s : Config) → Roomy (ok_of hd) stepper-sizes (36 + grown 36 b) s → room_for (config_bytes hd) (length buf) s ≡ true
    fits s h = fits-room (step (ok_of hd)) (config_bytes hd) (length buf) s
        (omega (arith, grown-times 36 b, length-encode_program hd s.block, contents-start))

    stepper-ran : steps hd (length buf) budget (at add (four a b c d)) ≡ record { count = add_steps b; outcome = is_finished; state = at empty (add_end a b d) }
    unfolding step step_block outcome_of
    stepper-ran =
        walk-runs (step (ok_of hd)) (Roomy (ok_of hd) stepper-sizes (36 + grown 36 b)) (room_for (config_bytes hd) (length buf)) fits
        (add-walk (ok_of hd) stepper-sizes a b c d (36 + grown 36 b) passes (omega arith)) (empty-halts (ok_of hd) (add_end a b d)) budget enough

    stepper-runs : run_stepper buf 64 (four a b c d) budget ≡ stepped_to hd (length buf) budget (record { count = add_steps b; outcome = is_finished; state = at empty (add_end a b d) })
    stepper-runs = stepper-is holds short (four a b c d) refl values budget ∙ ap (stepped_to hd (length buf) budget) stepper-ran

  -- the reducer
  module _ (bytes : take 172 buf ≡ encode_term hd (state_of 4 (at add (four a b c d)))) (room : 156 + 76 * b ≤ length buf) where
    start-length : length (encode_term hd (state_of 4 (at add (four a b c d)))) ≡ 172
    unfolding state_of
    start-length = length-encode_term hd (substitute (from_store (four a b c d)) (translate 4 add))
        ∙ ap (λ (n : ℕ). contents_at hd + (4 + n)) (term_size-substitute (from_store (four a b c d)) (translate 4 add))
        ∙ sym (length-encode_term hd (translate 4 add)) ∙ add-lengths.1

    holds-term : TermIn no_vars hd (state_of 4 (at add (four a b c d))) buf 172
    holds-term = record {
      within = take-fits 172 buf (ap length bytes ∙ start-length);
      header = first_fits 4 (omega arith) (omega arith);
      bytes = bytes;
      sound = sound-state_of (ok_of hd) (ok-limit hd) 4 (at add (four a b c d)) sound;
    }

    -- a state of the reducer is as long as the translation of the stepper's
    fits-term : (s : Config) → Roomy (ok_of hd) reducer-sizes (148 + grown 76 b) s → length (encode_term hd (state_of 4 s)) ≤ length buf
    unfolding state_of term_bytes
    fits-term s h = omega (arith, grown-times 76 b, contents-start, length-encode_term hd (substitute (from_store s.store) (translate 4 s.block)), term_size-substitute (from_store s.store) (translate 4 s.block))

    walk-term : Walk (reduce (ok_of hd)) (λ (t : Term). length (encode_term hd t) ≤ length buf) (add_steps b) (state_of 4 (at add (four a b c d))) (state_of 4 (at empty (add_end a b d)))
    walk-term =
        walk-locked (ok_of hd) 4 (Roomy (ok_of hd) reducer-sizes (148 + grown 76 b)) (λ (t : Term). length (encode_term hd t) ≤ length buf) fits-term sound.variables
        (add-walk (ok_of hd) reducer-sizes a b c d (148 + grown 76 b) passes (omega arith))

    reducer-ran : reductions hd (length buf) budget (state_of 4 (at add (four a b c d))) ≡ record { count = add_steps b; outcome = is_finished; state = tuple (map num (add_end a b d)) }
    unfolding reduce outcome_of
    reducer-ran =
        walk-runs (reduce (ok_of hd)) (λ (t : Term). length (encode_term hd t) ≤ length buf) (room_for (encode_term hd) (length buf)) (fits-room (reduce (ok_of hd)) (encode_term hd) (length buf))
        (subst (λ (t : Term). Walk (reduce (ok_of hd)) (λ (u : Term). length (encode_term hd u) ≤ length buf) (add_steps b) (state_of 4 (at add (four a b c d))) t) (finished-state 4 (add_end a b d) refl) walk-term)
        (tuple-halts (ok_of hd) (map num (add_end a b d))) budget enough

    reducer-runs : run_reducer buf 172 budget ≡ reduced_to hd (length buf) budget (state_of 4 (at add (four a b c d))) (record { count = add_steps b; outcome = is_finished; state = tuple (map num (add_end a b d)) })
    reducer-runs = reducer-is holds-term short budget ∙ ap (reduced_to hd (length buf) budget (state_of 4 (at add (four a b c d)))) reducer-ran

-- THE THEOREM

pub add-steps : AddSteps
add-steps = record {
  program_length = add-lengths.0;
  term_length = add-lengths.1;
  finishes = add-finishes;
  no_other = add-no_other;
  stepper_runs = λ a b c d buf budget values small bytes short room enough. stepper-runs a b c d values small buf short budget enough bytes room;
  reducer_runs = λ a b c d buf budget values small bytes short room enough. reducer-runs a b c d values small buf short budget enough bytes room;
}
