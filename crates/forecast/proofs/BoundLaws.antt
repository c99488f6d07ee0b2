-- THE TWO LENGTHS ALWAYS FIT IN 64 BITS: for a program of at most 16,384 bytes whose values take 4 bytes. So refusal 19 is a matter of
-- the steps alone, and code needs no test where it works out the lengths.
use Prim.Native.Nat.{◌*◌, ◌+◌, ◌<◌, max, suc, zero, ℕ, ◌≤◌}
use mathlib.Core.Path.{◌≡◌, refl}
use mathlib.Core.Bool.{◌||◌, Bool, false, true}
use mathlib.Core.List.{List}
use borrow.Author.Tests.{eqb-false, eqb-true, le-ltb}
use lib.Dec.{eqb, ltb}
use lib.ListN.{length}
use native.Mathlib.Nat.{mul-le-mul}
use native.Mathlib.Omega.{arith}
use Rattle.place.proofs.ProgramBytesLaws.{block_size-assign, block_size-empty, block_size-loop, block_size-nest}
use Rattle.place.proofs.ProgramNumberLaws.{bound-literal, bound-lookup}
use Rattle.record.specs.declared.Header.{Header}
use Rattle.record.specs.Header.{HeaderFits, contents_at, ok_of}
use Rattle.record.specs.Holding.{ProgramIn}
use Rattle.record.specs.Program.{BlockWords, block_size, bound_kind, bound_number}
use Rattle.record.proofs.HeaderLaws.{contents_at-high, length-encode_program, ok-limit, ok-word}
use Rattle.record.proofs.HoldingLaws.{program-size, program-words}
use Rattle.record.proofs.RowLaws.{or-intro, or_right}
use Rattle.rules.specs.Sound.{SmallValues}
use Rattle.rules.specs.Step.{bound_value}
use Rattle.rules.specs.Store.{lookup}
use Rattle.rules.specs.Syntax.{Block, Bound, Expr, assign, dec, empty, inc, lit, loop, nest, var}
use Rattle.rules.proofs.SoundConfigLaws.{small-lookup}
use Rattle.forecast.specs.Figures.{Weights, assign_weight, figures, longest_of, loop_longest, program_weights, steps_of, term_weights, turn_weight, weigh}
use Rattle.forecast.specs.Forecast.{some_too_large, too_large}
use Rattle.forecast.proofs.WeightLaws.{program-weigh}

-- the loops in a block
loops : Block → ℕ
loops empty = 0
loops (assign x e r) = loops r
loops (loop x b c r) = 1 + loops c + loops r
loops (nest c r) = loops c + loops r

loops-size : (P : Block) → 20 * loops P ≤ block_size P
unfolding loops
loops-size empty = omega arith
loops-size (assign x e r) = omega (arith, block_size-assign x e r, loops-size r)
loops-size (loop x b c r) = omega (arith, block_size-loop x b c r, loops-size c, loops-size r)
loops-size (nest c r) = omega (arith, block_size-nest c r, loops-size c, loops-size r)

-- The store's values take 4 bytes.
abbrev pub WordStore : List ℕ → Type 0
WordStore s = (x : ℕ) → lookup s x < 4294967296

-- and so the number of turns does
pub bound-word : (s : List ℕ) (b : Bound) → bound_number b < 4294967296 → WordStore s → bound_value s b < 4294967296
bound-word s b h values = by (eqb (bound_kind b) 16) refl
  where
    by : (t : Bool) → eqb (bound_kind b) 16 ≡ t → bound_value s b < 4294967296
    by true e = omega (arith, bound-literal s b (eqb-true (bound_kind b) 16 e))
    by false e = omega (arith, bound-lookup s b (eqb-false (bound_kind b) 16 e), values (bound_number b))

-- LONGEST, in a program that weighs no more than B: each loop adds at most all its turns, each of at most B bytes

loop-bound : (w : Weights) (n c p r B N : ℕ) → w.nested + w.plain ≤ w.looped → n ≤ N → w.looped + c + r ≤ B
    → loop_longest w n c p ≤ max (w.looped + c) (w.nested + p) + N * B
unfolding loop_longest turn_weight
loop-bound w zero c p r B N h l g = omega arith
loop-bound w (suc q) c p r B N h l g =
    let d : w.nested + w.plain + c ≤ B = omega arith in
    let a : suc q * (w.nested + w.plain + c) ≤ N * B = mul-le-mul l d in
    let k : q ≤ N = omega arith in
    let b : q * (w.nested + w.plain + c) ≤ N * B = mul-le-mul k d in
    omega arith

module _ (w : Weights) (h : w.nested + w.plain ≤ w.looped) (s : List ℕ) (values : WordStore s) (B : ℕ) where
  longest-bound : (P : Block) → BlockWords P → weigh w P ≤ B → longest_of w s P ≤ weigh w P + loops P * (4294967296 * B)
  unfolding longest_of weigh loops
  longest-bound empty g l = omega arith
  longest-bound (assign x e r) g l = let i = longest-bound r g.2 (omega arith) in omega arith
  longest-bound (loop x b c r) g l =
      let i = longest-bound c g.2 (omega arith) in
      let j = longest-bound r g.3 (omega arith) in
      let turns = bound-word s b g.1 values in
      let k = loop-bound w (bound_value s b) (weigh w c) (longest_of w s c) (weigh w r) B 4294967296 h (omega arith) l in
      omega arith
  longest-bound (nest c r) g l =
      let i = longest-bound c g.0 (omega arith) in
      let j = longest-bound r g.1 (omega arith) in
      omega arith

-- WEIGHTS: an empty block in a block is the worst, 4 bytes for 136

pub record Light (w : Weights) : Type 0 where
  pub turned : w.nested + w.plain ≤ w.looped
  pub weighs : (P : Block) → weigh w P ≤ 128 + 34 * block_size P

pub program-light : Light program_weights
unfolding program_weights
program-light = record { turned = omega arith; weighs = λ P. omega (arith, program-weigh P) }

term-assign-size : (k : ℕ) (e : Expr) → assign_weight (term_weights k) e ≤ 20
unfolding assign_weight term_weights
term-assign-size k (lit n) = omega arith
term-assign-size k (var x) = omega arith
term-assign-size k (inc x) = omega arith
term-assign-size k (dec x) = omega arith

term-weighs : (k : ℕ) → k ≤ 16 → (P : Block) → weigh (term_weights k) P ≤ 8 * k + 34 * block_size P
unfolding weigh term_weights
term-weighs k h empty = omega (arith, block_size-empty)
term-weighs k h (assign x e r) = omega (arith, block_size-assign x e r, term-assign-size k e, term-weighs k h r)
term-weighs k h (loop x b c r) = omega (arith, block_size-loop x b c r, term-weighs k h c, term-weighs k h r)
term-weighs k h (nest c r) = omega (arith, block_size-nest c r, term-weighs k h c, term-weighs k h r)

pub term-light : (k : ℕ) → k ≤ 16 → Light (term_weights k)
unfolding term_weights
term-light k h = record { turned = omega arith; weighs = λ P. omega (arith, term-weighs k h P) }

-- THE LAW: a length is below 2^61, header and outermost head included

pub longest-small : (w : Weights) → Light w → (P : Block) (s : List ℕ) → block_size P ≤ 16384 → BlockWords P → WordStore s → longest_of w s P + 16 < 2305843009213693952
longest-small w light P s size words values =
    let few = loops-size P in
    let most = light.weighs P in
    let b = longest-bound w light.turned s values 557184 P words (omega arith) in
    omega arith

-- OF A PROGRAM IN A BUFFER: refusal 19 is of the steps

pub word-store : (h : Header) → HeaderFits h → (s : List ℕ) → SmallValues (ok_of h) s → WordStore s
word-store h f s v x = ok-word h f (lookup s x) (small-lookup (ok_of h) (ok-limit h) s x v)

module _ {h : Header} {P : Block} {buf : List ℕ} {used : ℕ} (p : ProgramIn h P buf used) (short : length buf ≤ 16384) (s : List ℕ) (values : SmallValues (ok_of h) s) where
  length-small : (w : Weights) → Light w → contents_at h + 4 + longest_of w s P < 2305843009213693952
  length-small w light =
      let size : block_size P ≤ 16384 = omega (arith, program-size p, length-encode_program h P, p.within) in
      omega (arith, contents_at-high h, longest-small w light P s size (program-words p) (word-store h p.header s values))

  pub program-small : (figures h s P).program_bytes < 2305843009213693952
  unfolding figures
  program-small = length-small program_weights program-light

  pub term-small : (figures h s P).term_bytes < 2305843009213693952
  unfolding figures
  term-small = length-small (term_weights h.k) (term-light h.k p.header.k-high)

  pub steps-decide : some_too_large (figures h s P) ≡ too_large (steps_of s P)
  unfolding some_too_large too_large figures
  steps-decide =
      let f = figures h s P in
      or_right (ltb 18446744073709551615 (steps_of s P)) (ltb 18446744073709551615 f.program_bytes || ltb 18446744073709551615 f.term_bytes)
      (or-intro (le-ltb 18446744073709551615 f.program_bytes (omega (arith, program-small))) (le-ltb 18446744073709551615 f.term_bytes (omega (arith, term-small))))
