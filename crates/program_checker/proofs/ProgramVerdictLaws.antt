-- The verdict on a program's bytes, part by part.
use Prim.Native.Nat.{ℕ, ◌≤◌}
use mathlib.Core.Path.{ap, ap₂, refl, sym, ◌∙◌, ◌≡◌}
use mathlib.Core.Bool.{◌&&◌, Bool, and-true}
use mathlib.Core.List.{◌++◌, List, [], append-nil}
use mathlib.Core.Option.{Option, none, some}
use lib.ListN.{drop, length}
use lib.Seq.{drop-length}
use native.Mathlib.Omega.{arith}
use Rattle.rules.specs.Literals.{bound_literals, expr_literals, literals_in, small_values}
use Rattle.rules.specs.Scope.{block_in_range, bound_in_range, expr_in_range, in_range}
use Rattle.rules.specs.Store.{up_to}
use Rattle.rules.specs.Syntax.{Block, Bound, Expr, lit}
use Rattle.rules.proofs.LiteralsLaws.{append-literals, small_values-append}
use Rattle.record.specs.Class.{class_of}
use Rattle.record.specs.Command.{joined, one_assign, one_loop, one_nest}
use Rattle.record.specs.Front.{Front, u16}
use Rattle.record.specs.Program.{decode_block}
use Rattle.record.proofs.ExpressionReadLaws.{Variable, as_expr, bound_expr-literals, bound_expr-range}
use Rattle.record.proofs.ProgramReadLaws.{append-range, decode-empty, decode-other}
use Rattle.checker.specs.declared.Verdict.{Verdict}
use Rattle.checker.specs.declared.Verdict.TheVariants.{Good, Malformed}
use Rattle.checker.specs.Verdict.{rated, valued, verdict, worse}
use Rattle.checker.proofs.VerdictLaws.{both-and, rated-and, worse-assoc, worse-good, worse-malformed}
use Rattle.program_checker.specs.OpensCommand.{OpensCommand}
use Rattle.program_checker.specs.BlockVerdict.{block_verdict, bound_rating, expr_rating}
use Rattle.record.specs.declared.Class.TheVariants.{Program}
use Rattle.program_checker.proofs.KindLaws.{not-command}

-- WHAT THE PARTS HOLD

module _ (k largest : ℕ) where
  abbrev small : List ℕ → Bool
  small l = small_values (up_to largest) l

  small-nil : (l : List ℕ) → small (l ++ []) ≡ small l
  small-nil l = ap small (append-nil l)

  small-and : (l m : List ℕ) → small (l ++ m) ≡ (small l && small m)
  small-and l m = small_values-append (up_to largest) l m

  pub literal-verdict : (v : ℕ) → expr_rating k largest (lit v) ≡ valued (up_to largest v)
  unfolding expr_in_range expr_literals small_values
  literal-verdict v = ap valued (and-true (up_to largest v))

  pub variable-verdict : (o : Option Expr) (v : ℕ) → Variable o v → verdict (expr_rating k largest) o ≡ rated (in_range k v)
  unfolding small_values
  variable-verdict o v h =
      ap (verdict (expr_rating k largest)) h.is ∙ ap (λ (l : List ℕ). worse (rated (expr_in_range k h.expr)) (valued (small l))) h.none
      ∙ worse-good (rated (expr_in_range k h.expr)) ∙ ap rated (h.range k)

  pub bound-verdict : (o : Option Bound) → verdict (expr_rating k largest) (as_expr o) ≡ verdict (bound_rating k largest) o
  bound-verdict none = refl
  bound-verdict (some b) = ap₂ (λ (x : Bool) (l : List ℕ). worse (rated x) (valued (small l))) (bound_expr-range k b) (bound_expr-literals b)

  pub nest-verdict : (o : Option Block) → block_verdict k largest (one_nest o) ≡ block_verdict k largest o
  unfolding block_in_range literals_in
  nest-verdict none = refl
  nest-verdict (some p) = ap₂ (λ (x y : Bool). worse (rated x) (valued y)) (and-true (block_in_range k p)) (small-nil (literals_in p))

  pub assign-verdict : (x : ℕ) (o : Option Expr) → block_verdict k largest (one_assign x o) ≡ worse (rated (in_range k x)) (verdict (expr_rating k largest) o)
  unfolding block_in_range literals_in
  assign-verdict x none = sym (worse-malformed (rated (in_range k x)))
  assign-verdict x (some e) =
      rw (and-true (expr_in_range k e), small-nil (expr_literals e), rated-and (in_range k x) (expr_in_range k e))
      (worse-assoc (rated (in_range k x)) (rated (expr_in_range k e)) (valued (small (expr_literals e))))

  pub loop-verdict : (x : ℕ) (o : Option Bound) (p : Option Block)
      → block_verdict k largest (one_loop x o p) ≡ worse (worse (rated (in_range k x)) (verdict (bound_rating k largest) o)) (block_verdict k largest p)
  unfolding block_in_range literals_in
  loop-verdict x none p = rw (worse-malformed (rated (in_range k x))) refl
  loop-verdict x (some b) none = sym (worse-malformed (worse (rated (in_range k x)) (bound_rating k largest b)))
  loop-verdict x (some b) (some p) =
      let i = in_range k x in
      let r = bound_in_range k b in
      let v = small (bound_literals b) in
      let q = block_in_range k p in
      let w = small (literals_in p) in
      rw (and-true q, append-nil (literals_in p), small-and (bound_literals b) (literals_in p), rated-and i (r && q))
      (worse-assoc (rated i) (rated (r && q)) (valued (v && w)) ∙ ap (worse (rated i)) (both-and r q v w)
      ∙ sym (worse-assoc (rated i) (worse (rated r) (valued v)) (worse (rated q) (valued w))))

  pub joined-verdict : (o p : Option Block) → block_verdict k largest (joined o p) ≡ worse (block_verdict k largest o) (block_verdict k largest p)
  joined-verdict none p = refl
  joined-verdict (some a) none = sym (worse-malformed (block_verdict k largest (some a)))
  joined-verdict (some a) (some b) =
      ap₂ (λ (x y : Bool). worse (rated x) (valued y)) (append-range k a b) (append-literals (up_to largest) a b)
      ∙ both-and (block_in_range k a) (block_in_range k b) (small (literals_in a)) (small (literals_in b))

  pub empty-verdict : (l : List ℕ) → length l ≡ 0 → block_verdict k largest (decode_block l) ≡ Good
  unfolding block_in_range literals_in small_values
  empty-verdict l e = ap (block_verdict k largest) (decode-empty l e)

  -- a head that ends where its record ends
  pub opens-all : (l : List ℕ) (v : Verdict) → 4 ≤ length l → v ≡ block_verdict k largest (decode_block l) → OpensCommand k largest l v (length l)
  opens-all l v h e = record {
    least = h;
    most = omega arith;
    both = sym e ∙ sym (ap (worse v) (empty-verdict (drop (length l) l) (ap length (drop-length l))) ∙ worse-good v);
  }

  -- a head of no command
  pub opens-none : (l : List ℕ) {v : Verdict} {n : ℕ} → (v ≡ Malformed) × (n ≡ length l) → 4 ≤ length l → decode_block l ≡ none → OpensCommand k largest l v n
  opens-none l e h d = rw (e.0, e.1) (opens-all l Malformed h (sym (ap (block_verdict k largest) d)))

  pub opens-class : (l : List ℕ) {v : Verdict} {n : ℕ} → (v ≡ Malformed) × (n ≡ length l) → Front l (length l)
      → (class_of (u16 l 2) ≡ Program → ⊥) → OpensCommand k largest l v n
  opens-class l e f h =
      let other = not-command (u16 l 2) h in
      opens-none l e f.least (decode-other l f (other 1 (omega arith) (omega arith)) (other 2 (omega arith) (omega arith)) (other 3 (omega arith) (omega arith)))
