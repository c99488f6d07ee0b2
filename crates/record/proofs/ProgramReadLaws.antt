-- What a block's contents decode to by what stands first in them: one law for each way out of code that reads them.
use Prim.Native.Nat.{◌-◌, suc, zero, ℕ, ◌≤◌}
use mathlib.Core.Path.{◌≡◌, ap, refl, sym, ◌∙◌}
use mathlib.Core.Bool.{◌&&◌, and_assoc, false, true}
use mathlib.Core.List.{List, [], ◌∷◌}
use mathlib.Core.Option.{Option, none, some}
use lib.ListN.{drop, length, length-drop, take}
use lib.Seq.{drop-drop, length-take-le, take_all}
use native.Mathlib.Omega.{arith}
use Rattle.buffer.specs.Slice as slice
use Rattle.rules.specs.Scope.{block_in_range}
use Rattle.rules.specs.Syntax.{Block, Bound, Expr, append, assign, empty, loop, nest}
use Rattle.rules.proofs.Tests.{true-false}
use Rattle.record.specs.Command.{joined, one_assign, one_loop, one_nest}
use Rattle.record.specs.Front.{Front, is_only, only, u16, u32}
use Rattle.record.specs.Header.{block_in}
use Rattle.record.specs.Program.{CommandKind, bound_from, bound_kind, bound_number, command_kind, decode_block, decode_block_part, decode_block_step, decode_command, expr_from, expr_kind, expr_number, is_assign, is_block, is_loop, not_command, read_bound, read_expr}
use Rattle.record.specs.Reading.{Got, at_end, bind, fail, from_some, got, sub, then, word}
use Rattle.record.specs.Record.{bad, part, split}
use Rattle.record.proofs.FrontLaws.{front-alone, front-split, front-take, is_only-got, is_only-some, none-unless, only-inv}
use Rattle.record.proofs.LeafLaws.{leaf-front, nil-drop, part-take, word_at}
use Rattle.record.proofs.ProgramLaws.{decode_block-step}
use Rattle.record.proofs.ReadingLaws.{at_end-inv, from_some-got, leaf-length, sub_part, then-inv, word-length}
use Rattle.record.proofs.RecordLaws.{split-length}

-- NOTHING, AND NO RECORD

decode-nil : decode_block [] ≡ some empty
unfolding decode_block_step decode_block_part split
decode-nil = decode_block-step []

pub decode-empty : (l : List ℕ) → length l ≡ 0 → decode_block l ≡ some empty
decode-empty [] e = decode-nil
decode-empty (x ∷ l) e = absurd (omega arith)

pub decode-bad : (l : List ℕ) → split l ≡ bad → decode_block l ≡ none
unfolding decode_block_step decode_block_part
decode-bad l e = decode_block-step l ∙ rw e refl

-- A RECORD IN FRONT

decode-part : (l : List ℕ) (k : ℕ) (b r : List ℕ) → split l ≡ part k b r → decode_block l ≡ decode_command decode_block (command_kind k) b r
unfolding decode_block_step decode_block_part
decode-part l k b r e = decode_block-step l ∙ rw e refl

module _ (r : List ℕ) where
  joined-then : {A : Type 0} (g : Got A) (f h : A → List ℕ → Option Block) → ((a : A) (b : List ℕ) → f a b ≡ joined (h a b) (decode_block r)) → then g f ≡ joined (then g h) (decode_block r)
  unfolding then
  joined-then fail f h e = refl
  joined-then (got a b) f h e = e a b

  joined_end : (b : List ℕ) (o p : Option Block) → o ≡ joined p (decode_block r) → at_end b o ≡ joined (at_end b p) (decode_block r)
  unfolding at_end
  joined_end [] o p e = e
  joined_end (x ∷ b) o p e = refl

  joined-bind : (o : Option Block) (f h : Block → Option Block) → ((p : Block) → f p ≡ joined (h p) (decode_block r)) → bind o f ≡ joined (bind o h) (decode_block r)
  unfolding bind
  joined-bind none f h e = refl
  joined-bind (some p) f h e = e p

  joined-last : (f : Block → Block) → ((q : Block) → f q ≡ append (f empty) q) → bind (decode_block r) (λ q. some (f q)) ≡ joined (bind (decode_block []) (λ q. some (f q))) (decode_block r)
  unfolding bind
  joined-last f h = rw decode-nil (go (decode_block r))
    where
      go : (o : Option Block) → bind o (λ q. some (f q)) ≡ joined (some (f empty)) o
      go none = refl
      go (some q) = ap some (h q)

  -- the first command and the rest of the commands
  joined-command : {k : ℕ} (c : CommandKind k) (b : List ℕ) → decode_command decode_block c b r ≡ joined (decode_command decode_block c b []) (decode_block r)
  unfolding decode_command append
  joined-command is_block b = joined-bind (decode_block b) _ _ (λ p. joined-last (nest p) (λ q. refl))
  joined-command is_assign b =
      joined-then (word b) _ _ (λ x b₁. joined-then (read_expr b₁) _ _ (λ e b₂. joined_end b₂ _ _ (joined-last (assign x e) (λ q. refl))))
  joined-command is_loop b =
      joined-then (word b) _ _ (λ x b₁. joined-then (read_bound b₁) _ _ (λ n b₂. joined-then (sub 1 b₂) _ _ (λ c b₃.
      joined_end b₃ _ _ (joined-bind (decode_block c) _ _ (λ p. joined-last (loop x n p) (λ q. refl))))))
  joined-command not_command b = refl

pub decode-front : (l : List ℕ) (n : ℕ) → Front l n → decode_block l ≡ joined (decode_block (take n l)) (decode_block (drop n l))
decode-front l n f =
    let k : ℕ = u16 l 2 in
    let b : List ℕ = slice.part l 4 (n - 4) in
    let g : Front (take n l) n = front-take l n f in
    let s : split (take n l) ≡ part k b [] =
    front-split (take n l) n g ∙ rw (part-take l n 2 2 (omega (arith, f.least)), part-take l n 4 (n - 4) (omega (arith, f.least)), nil-drop (take n l) n (length-take-le n l f.most)) refl in
    decode-part l k b (drop n l) (front-split l n f)
    ∙ joined-command (drop n l) (command_kind k) b
    ∙ ap (λ (o : Option Block). joined o (decode_block (drop n l))) (sym (decode-part (take n l) k b [] s))

-- ONE COMMAND: a record and nothing after it, by its kind

module _ (l : List ℕ) (whole : Front l (length l)) where
  decode-kind : (k : ℕ) → u16 l 2 ≡ k → decode_block l ≡ decode_command decode_block (command_kind k) (drop 4 l) []
  decode-kind k e = decode-part l (u16 l 2) (drop 4 l) [] (front-alone l whole) ∙ ap (λ (n : ℕ). decode_command decode_block (command_kind n) (drop 4 l) []) e

  pub decode-nest : u16 l 2 ≡ 1 → decode_block l ≡ one_nest (decode_block (drop 4 l))
  unfolding decode_command command_kind bind
  decode-nest e = decode-kind 1 e ∙ rw decode-nil (go (decode_block (drop 4 l)))
    where
      go : (o : Option Block) → bind o (λ p. some (nest p empty)) ≡ one_nest o
      go none = refl
      go (some p) = refl

  -- the four bytes after the kind
  decode-word : 8 ≤ length l → word (drop 4 l) ≡ got (u32 l 4) (drop 8 l)
  unfolding slice.part
  decode-word h = word_at (drop 4 l) (omega (arith, length-drop 4 l)) ∙ rw (drop-drop 4 4 l) refl

  pub decode-assign : u16 l 2 ≡ 2 → length l ≡ 16 → decode_block l ≡ one_assign (u32 l 4) (only (read_expr (take 8 (drop 8 l))))
  unfolding decode_command command_kind bind then at_end only
  decode-assign e n =
      let t : take 8 (drop 8 l) ≡ drop 8 l = take_all 8 (drop 8 l) (omega (arith, length-drop 8 l)) in
      decode-kind 2 e ∙ rw (decode-word (omega arith), decode-nil, t) (go (read_expr (drop 8 l)))
    where
      end : (b : List ℕ) (m : Expr) → at_end b (some (assign (u32 l 4) m empty)) ≡ one_assign (u32 l 4) (at_end b (some m))
      end [] m = refl
      end (x ∷ b) m = refl

      go : (g : Got Expr) → then g (λ m b. at_end b (some (assign (u32 l 4) m empty))) ≡ one_assign (u32 l 4) (only g)
      go fail = refl
      go (got m b) = end b m

  pub decode-assign-no : u16 l 2 ≡ 2 → (length l ≡ 16 → ⊥) → decode_block l ≡ none
  unfolding decode_command command_kind
  decode-assign-no e h = none-unless (decode_block l) λ t p.
      then-inv (word (drop 4 l)) _ t (sym (decode-kind 2 e) ∙ p) λ x b₁ e₁ f₁.
      then-inv (read_expr b₁) _ t f₁ λ m b₂ e₂ f₂.
      at_end-inv b₂ _ t f₂ λ n f₃.
      let l₁ = word-length (drop 4 l) x b₁ e₁ in
      let l₂ = leaf-length expr_kind expr_number expr_from b₁ m b₂ e₂ in
      let l₃ = length-drop 4 l in
      h (omega (arith, ap length n))

  pub decode-loop : u16 l 2 ≡ 3 → 20 ≤ length l → is_only 1 (drop 16 l) ≡ true → decode_block l ≡ one_loop (u32 l 4) (only (read_bound (take 8 (drop 8 l)))) (decode_block (drop 20 l))
  unfolding decode_command command_kind bind then at_end from_some
  decode-loop e n o =
      let b : read_bound (drop 8 l) ≡ from_some (only (read_bound (take 8 (drop 8 l)))) (drop 16 l) =
      leaf-front bound_kind bound_number bound_from (drop 8 l) (omega (arith, length-drop 8 l)) ∙ rw (drop-drop 8 8 l) refl in
      let s : sub 1 (drop 16 l) ≡ got (drop 20 l) [] = only-inv (sub 1 (drop 16 l)) (drop 20 l) (is_only-some 1 (drop 16 l) o ∙ rw (drop-drop 4 16 l) refl) in
      decode-kind 3 e ∙ rw (decode-word (omega arith), b) (go (only (read_bound (take 8 (drop 8 l)))) s)
    where
      go : (m : Option Bound) → sub 1 (drop 16 l) ≡ got (drop 20 l) []
          → then (from_some m (drop 16 l)) (λ n b₂. then (sub 1 b₂) (λ c b₃. at_end b₃ (bind (decode_block c) (λ p. bind (decode_block []) (λ q. some (loop (u32 l 4) n p q))))))
          ≡ one_loop (u32 l 4) m (decode_block (drop 20 l))
      go none s = refl
      go (some m) s = rw (s, decode-nil) (inside (decode_block (drop 20 l)))
        where
          inside : (d : Option Block) → bind d (λ p. some (loop (u32 l 4) m p empty)) ≡ one_loop (u32 l 4) (some m) d
          inside none = refl
          inside (some p) = refl

  pub decode-loop-no : u16 l 2 ≡ 3 → (20 ≤ length l → is_only 1 (drop 16 l) ≡ true → ⊥) → decode_block l ≡ none
  unfolding decode_command command_kind
  decode-loop-no e h = none-unless (decode_block l) λ t p.
      then-inv (word (drop 4 l)) _ t (sym (decode-kind 3 e) ∙ p) λ x b₁ e₁ f₁.
      then-inv (read_bound b₁) _ t f₁ λ m b₂ e₂ f₂.
      then-inv (sub 1 b₂) _ t f₂ λ c b₃ e₃ f₃.
      at_end-inv b₃ _ t f₃ λ n f₄.
      let l₁ = word-length (drop 4 l) x b₁ e₁ in
      let l₂ = leaf-length bound_kind bound_number bound_from b₁ m b₂ e₂ in
      let l₃ = length-drop 4 l in
      let l₄ = split-length b₂ 1 c b₃ (sub_part 1 b₂ c b₃ e₃) in
      let w = decode-word (omega arith) in
      let d₁ : drop 8 l ≡ b₁ = cc in
      let o = from_some-got (only (read_bound (take 8 b₁))) (drop 8 b₁) m b₂ (sym (leaf-front bound_kind bound_number bound_from b₁ (omega arith)) ∙ e₂) in
      let d₂ : drop 16 l ≡ b₂ = sym (drop-drop 8 8 l) ∙ ap (drop 8) d₁ ∙ o.1 in
      h (omega arith) (rw d₂ (is_only-got 1 b₂ c (e₃ ∙ ap (got c) n)))

  pub decode-other : (u16 l 2 ≡ 1 → ⊥) → (u16 l 2 ≡ 2 → ⊥) → (u16 l 2 ≡ 3 → ⊥) → decode_block l ≡ none
  unfolding decode_command command_kind
  decode-other a b c = go (u16 l 2) refl
    where
      go : (k : ℕ) → u16 l 2 ≡ k → decode_block l ≡ none
      go zero e = decode-kind zero e
      go (suc zero) e = absurd (a e)
      go (suc (suc zero)) e = absurd (b e)
      go (suc (suc (suc zero))) e = absurd (c e)
      go (suc (suc (suc (suc k)))) e = decode-kind (suc (suc (suc (suc k)))) e

-- THE CONTENTS OF A PROGRAM: one block, and nothing after it

module _ (c : List ℕ) where
  pub block_in-only : is_only 1 c ≡ true → block_in c ≡ decode_block (drop 4 c)
  unfolding block_in then at_end
  block_in-only o = rw (only-inv (sub 1 c) (drop 4 c) (is_only-some 1 c o)) refl

  pub block_in-not : is_only 1 c ≡ false → block_in c ≡ none
  unfolding block_in
  block_in-not o = none-unless (block_in c) λ t e.
      then-inv (sub 1 c) _ t e λ b r e₁ f₁.
      at_end-inv r _ t f₁ λ n f₂.
      true-false (sym (is_only-got 1 c b (e₁ ∙ ap (got b) n)) ∙ o)

-- VARIABLE NUMBERS

pub append-range : (k : ℕ) (p q : Block) → block_in_range k (append p q) ≡ (block_in_range k p && block_in_range k q)
unfolding append block_in_range
append-range k empty q = refl
append-range k (assign x e r) q = rw (append-range k r q) (simp and_assoc)
append-range k (loop x b body r) q = rw (append-range k r q) (simp and_assoc)
append-range k (nest b r) q = rw (append-range k r q) (simp and_assoc)
