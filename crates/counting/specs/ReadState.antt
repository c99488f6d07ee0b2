-- The state that numbers hold, or what is wrong with them: 02's conditions of refusal 13, one by one.
use Rattle.std.specs.Prelude.{◌-◌, suc, zero, ℕ, Bool, false, true, List, [], ◌∷◌, eqb, leb}
use Rattle.std.proofs.Math.Option.{Option, none, some}
use Rattle.rules.specs.Syntax.{Block, Expr, assign, dec, empty, inc, lit, loop, nest, var}
use Rattle.counting.specs.Counting.{State, at_zero, here, in_block, in_body, storing, summed, unrolling}
use Rattle.counting.specs.Held.{Held, Numbers}
use Rattle.counting.specs.Place.{body_at, inside_at, rest_at}

-- The conditions of refusal 13.
pub data Wrong : Type 0 where
  -- Some place is no command start or block end directly within the loop or block before it.
  no_place : Wrong
  -- What is held open as a loop or block is none.
  none_open : Wrong
  -- It is not at its holder's place.
  not_at_holder : Wrong
  -- Something is open within a loop unrolling, running at 0 or with its index still to be stored.
  open_within : Wrong
  -- Body progress is held where there is none.
  progress_held : Wrong
  -- Body progress is missing elsewhere.
  progress_missing : Wrong
  -- A reached count is above its top.
  above_top : Wrong
  -- A sum waits where no plus one or minus one stands.
  no_sum : Wrong

-- What was read, or what is wrong.
pub data Read (A : Type 0) : Type 0 where
  right : A → Read A
  wrong : Wrong → Read A

-- Nothing is wrong.
unfoldable pub is_right : {A : Type 0} → Read A → Bool
is_right (right a) = true
is_right (wrong w) = false

-- Only where the test holds.
unfoldable pub check : {A : Type 0} → Bool → Wrong → Read A → Read A
check true w o = o
check false w o = wrong w

-- What is left from a place on, if the place is one.
unfoldable pub on_rest : {A : Type 0} → Option Block → (Block → Read A) → Read A
on_rest none f = wrong no_place
on_rest (some r) f = f r

-- A state that was read, with an entry around it.
unfoldable pub holding : (State → State) → Read State → Read State
holding f (right s) = right (f s)
holding f (wrong w) = wrong w

-- No entry follows.
unfoldable pub is_last : List Held → Bool
is_last [] = true
is_last (h ∷ hs) = false

-- A sum v that waits before r: an assignment of plus one or minus one stands there.
unfoldable pub read_sum : ℕ → ℕ → Expr → Block → Read State
read_sum v x (lit n) r = wrong no_sum
read_sum v x (var y) r = wrong no_sum
read_sum v x (inc y) r = right (summed x (inc y) v r)
read_sum v x (dec y) r = right (summed x (dec y) v r)

unfoldable pub read_waiting : ℕ → Block → Read State
read_waiting v empty = wrong no_sum
read_waiting v (assign x e r) = read_sum v x e r
read_waiting v (loop x n q r) = wrong no_sum
read_waiting v (nest q r) = wrong no_sum

-- What stands innermost, at what is left of its block: a sum v waits there, or none does.
unfoldable pub read_here : ℕ → ℕ → Block → Read State
read_here zero v r = right (here r)
read_here (suc w) v r = read_waiting v r

-- A loop within which nothing can be open and no sum can wait.
unfoldable pub read_shut : ℕ → Bool → State → Read State
read_shut waits last s = check last open_within (check (eqb waits 0) no_sum (right s))

-- A loop in play, by whether it is running, the count it has reached, and its body's progress; `inside` reads its body at a
-- place.
unfoldable pub read_loop : ℕ → Bool → ℕ → ℕ → ℕ → ℕ → ℕ → Block → Block → (ℕ → Read State) → Read State
read_loop waits last zero c progress top x q r inside = check (eqb progress 0) progress_held (read_shut waits last (unrolling x c (top - c) q r))
read_loop waits last (suc f) zero progress top x q r inside = check (eqb progress 0) progress_held (read_shut waits last (at_zero x top q r))
read_loop waits last (suc f) (suc c) zero top x q r inside = wrong progress_missing
read_loop waits last (suc f) (suc c) (suc zero) top x q r inside = read_shut waits last (storing x (suc c) (top - suc c) q r)
read_loop waits last (suc f) (suc c) (suc (suc i)) top x q r inside = holding (λ s. in_body x (suc c) (top - suc c) q s r) (inside i)

-- What is held open where r is left of its holder, at the place p; `inside` reads what is within it.
unfoldable pub read_open : ℕ → Bool → Held → ℕ → (Block → ℕ → ℕ → Read State) → Block → Read State
read_open waits last h p inside empty = wrong none_open
read_open waits last h p inside (assign x e r) = wrong none_open
read_open waits last h p inside (loop x n q r) =
    check (eqb h.what 2) none_open (check (eqb h.at p) not_at_holder (check (leb h.reached h.top) above_top
    (read_loop waits last h.running h.reached h.progress h.top x q r (inside q (body_at p)))))
read_open waits last h p inside (nest q r) =
    check (eqb h.what 1) none_open (check (eqb h.at p) not_at_holder (holding (λ s. in_block q s r) (inside q (inside_at p) h.progress)))

-- The state of the block b whose first command stands at a, from the place p in it and the entries within it.
unfoldable pub read_state : ℕ → ℕ → List Held → Block → ℕ → ℕ → Read State
read_state waits sum [] b a p = on_rest (rest_at b a p) (λ r. read_here waits sum r)
read_state waits sum (h ∷ hs) b a p = on_rest (rest_at b a p) (λ r. read_open waits (is_last hs) h p (λ q m i. read_state waits sum hs q m i) r)

-- The state of the block b whose first command stands at a that these numbers hold.
unfoldable pub read_numbers : Numbers → Block → ℕ → Read State
read_numbers w b a = read_state w.waits w.sum w.held b a w.place
