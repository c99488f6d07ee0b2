-- The two weights are the lengths of the two records.
use Prim.Native.Nat.{◌+◌, ℕ, ◌≤◌}
use mathlib.Core.Path.{◌≡◌, refl, ◌∙◌}
use mathlib.Core.List.{List}
use lib.ListN.{length}
use native.Mathlib.Omega.{arith}
use Rattle.place.proofs.ProgramBytesLaws.{block_size-assign, block_size-empty, block_size-loop, block_size-nest}
use Rattle.place.proofs.TermBytesLaws.{size-plain, size-pred, size-succ, term_size-let_all, term_size-let_one, term_size-rec, term_size-tuple}
use Rattle.record.specs.declared.Header.{Header}
use Rattle.record.specs.Header.{contents_at, encode_program, encode_term}
use Rattle.record.specs.Program.{block_size}
use Rattle.record.specs.Term.{simple_size, term_size}
use Rattle.record.proofs.HeaderLaws.{length-encode_program, length-encode_term}
use Rattle.record.proofs.SizeLaws.{term_size-substitute}
use Rattle.rules.specs.Step.{bound_value}
use Rattle.rules.specs.Substitution.{from_store, state_of}
use Rattle.rules.specs.Syntax.{Block, Config, Expr, assign, dec, empty, inc, lit, loop, nest, num, rec, ref, var}
use Rattle.rules.specs.Translation.{all, atom_of, simple_of, translate}
use Rattle.rules.proofs.SoundTermLaws.{length-refs}
use Rattle.forecast.specs.Figures.{Weights, assign_weight, longest_of, program_weights, term_weights, weigh}
use Rattle.forecast.proofs.FiguresLaws.{Falling, loop_longest-least}

pub program-falling : Falling program_weights
unfolding program_weights
program-falling = record { literal = omega arith; stopped = omega arith }

pub term-falling : (k : ℕ) → Falling (term_weights k)
unfolding term_weights
term-falling k = record { literal = omega arith; stopped = omega arith }

-- the start is on the way
pub weigh-longest : (w : Weights) (s : List ℕ) (P : Block) → weigh w P ≤ longest_of w s P
unfolding weigh longest_of
weigh-longest w s empty = omega arith
weigh-longest w s (assign x e r) = omega arith
weigh-longest w s (loop x b c r) = omega (arith, loop_longest-least w (bound_value s b) (weigh w c) (longest_of w s c))
weigh-longest w s (nest c r) = omega (arith, weigh-longest w s c)

-- THE PROGRAM'S RECORD

program-assign : (e : Expr) → assign_weight program_weights e ≡ 16
unfolding assign_weight program_weights
program-assign (lit n) = refl
program-assign (var x) = refl
program-assign (inc x) = refl
program-assign (dec x) = refl

pub program-weigh : (b : Block) → weigh program_weights b ≡ block_size b
unfolding weigh program_weights
program-weigh empty = omega (arith, block_size-empty)
program-weigh (assign x e r) = omega (arith, block_size-assign x e r, program-assign e, program-weigh r)
program-weigh (loop x b c r) = omega (arith, block_size-loop x b c r, program-weigh c, program-weigh r)
program-weigh (nest c r) = omega (arith, block_size-nest c r, program-weigh c, program-weigh r)

pub program-length : (h : Header) (P : Block) → length (encode_program h P) ≡ contents_at h + 4 + weigh program_weights P
program-length h P = omega (arith, length-encode_program h P, program-weigh P)

-- THE TERM'S

term-assign : (k : ℕ) (e : Expr) → assign_weight (term_weights k) e ≡ 8 + simple_size (simple_of e)
unfolding assign_weight term_weights simple_of
term-assign k (lit n) = omega (arith, size-plain (num n))
term-assign k (var x) = omega (arith, size-plain (ref x))
term-assign k (inc x) = omega (arith, size-succ (ref x))
term-assign k (dec x) = omega (arith, size-pred (ref x))

pub term-weigh : (k : ℕ) (b : Block) → weigh (term_weights k) b ≡ term_size (translate k b)
unfolding weigh translate term_weights
term-weigh k empty = omega (arith, term_size-tuple (all k), length-refs 1 k)
term-weigh k (assign x e r) = omega (arith, term_size-let_one x (simple_of e) (translate k r), term-assign k e, term-weigh k r)
term-weigh k (loop x b c r) =
    omega (arith, term_size-let_all (rec x (atom_of b) (all k) (translate k c)) (translate k r), term_size-rec x (atom_of b) (all k) (translate k c), length-refs 1 k, term-weigh k c, term-weigh k r)
term-weigh k (nest c r) = omega (arith, term_size-let_all (translate k c) (translate k r), term-weigh k c, term-weigh k r)

pub term-length : (h : Header) (c : Config) → length (encode_term h (state_of h.k c)) ≡ contents_at h + 4 + weigh (term_weights h.k) c.block
unfolding state_of
term-length h c =
    length-encode_term h (state_of h.k c)
    ∙ omega (arith, term_size-substitute (from_store c.store) (translate h.k c.block), term-weigh h.k c.block)
