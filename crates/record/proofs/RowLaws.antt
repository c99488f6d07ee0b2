-- Laws of a list of rows: the first that applies, and none.
use Prim.Native.Nat.{ℕ}
use mathlib.Core.Path.{ap, refl, sym, ◌∙◌, ◌≡◌}
use mathlib.Core.Logic.{inl, inr, ◌⊎◌}
use mathlib.Core.Bool.{◌&&◌, Bool, false, not, true, ◌||◌}
use mathlib.Core.List.{◌++◌, List, [], append-nil, ◌∷◌}
use mathlib.Core.Option.{Option, none, some}
use borrow.Author.Tests.{eq-eqb}
use lib.Dec.{eqb}
use Rattle.rules.proofs.Tests.{and_both, true-false}
use Rattle.record.specs.Table.{in_table}
use Rattle.record.specs.Rows.{First, NoRow, Row, first_row, holds, is_none, or_else, pick_row, row}

-- THE FIRST ROW

-- each number of a list of rows stands in the table
abbrev pub numbered : List Row → Bool
numbered [] = true
numbered (r ∷ rs) = in_table r.number && numbered rs

pub first-applies : (n : ℕ) (b : Bool) (more : List Row) → b ≡ true → first_row (row n b ∷ more) ≡ n
unfolding first_row pick_row
first-applies n b more e = rw e refl

pub first-skips : (n : ℕ) (b : Bool) (more : List Row) → b ≡ false → first_row (row n b ∷ more) ≡ first_row more
unfolding first_row pick_row
first-skips n b more e = rw e refl

-- a list of rows and more rows
pub first-before : (rs more : List Row) → (first_row rs ≡ 0 → ⊥) → first_row (rs ++ more) ≡ first_row rs
unfolding first_row pick_row
first-before [] more h = absurd (h refl)
first-before (r ∷ rs) more h = go r.applies (first-before rs more) h
  where
    go : (b : Bool) → ((first_row rs ≡ 0 → ⊥) → first_row (rs ++ more) ≡ first_row rs) → (pick_row b r.number (first_row rs) ≡ 0 → ⊥)
        → pick_row b r.number (first_row (rs ++ more)) ≡ pick_row b r.number (first_row rs)
    go true ih h = refl
    go false ih h = ih h

pub first-behind : (rs more : List Row) → NoRow rs → first_row (rs ++ more) ≡ first_row more
first-behind [] more h = refl
first-behind (r ∷ rs) more h = first-skips r.number r.applies (rs ++ more) h.0 ∙ first-behind rs more h.1

-- where no row of both applies, none of either does
pub none-split : (rs more : List Row) → NoRow (rs ++ more) → NoRow rs × NoRow more
none-split [] more h = (tt, h)
none-split (r ∷ rs) more h = let q = none-split rs more h.1 in ((h.0, q.0), q.1)

pub none_both : (rs more : List Row) → NoRow rs → NoRow more → NoRow (rs ++ more)
none_both [] more h g = g
none_both (r ∷ rs) more h g = (h.0, none_both rs more h.1 g)

pub none_first : (rs : List Row) → NoRow rs → first_row rs ≡ 0
unfolding first_row
none_first [] h = refl
none_first (r ∷ rs) h = first-skips r.number r.applies rs h.0 ∙ none_first rs h.1

pub first-first : (rs : List Row) → First rs (first_row rs)
unfolding first_row pick_row
first-first [] = refl
first-first (r ∷ rs) = go r.applies refl (first-first rs)
  where
    go : (b : Bool) → r.applies ≡ b → First rs (first_row rs) → First (r ∷ rs) (pick_row b r.number (first_row rs))
    go true e ih = inl (e, refl)
    go false e ih = inr (e, ih)

-- where the first row that applies has number 0 there is none, for 0 does not stand in the table
first-zero : (rs : List Row) (n : ℕ) → numbered rs ≡ true → First rs n → n ≡ 0 → NoRow rs
first-zero [] n h f e = tt
first-zero (r ∷ rs) n h (inl v) e =
    let p = and_both (in_table r.number) (numbered rs) h in
    true-false (sym p.0 ∙ ap in_table (sym v.1 ∙ e))
first-zero (r ∷ rs) n h (inr v) e = (v.0, first-zero rs n (and_both (in_table r.number) (numbered rs) h).1 v.1 e)

pub first-none : (rs : List Row) → numbered rs ≡ true → first_row rs ≡ 0 → NoRow rs
first-none rs h e = first-zero rs (first_row rs) h (first-first rs) e

-- A number that no row of a list has.
abbrev pub without : ℕ → List Row → Bool
without n [] = true
without n (r ∷ rs) = not (eqb n r.number) && without n rs

-- where such a number is the first, no row of the list applies, and the rows behind give it
pub first_past : (rs more : List Row) (n : ℕ) → without n rs ≡ true → first_row (rs ++ more) ≡ n → NoRow rs × (first_row more ≡ n)
unfolding first_row pick_row
first_past [] more n h e = (tt, e)
first_past (r ∷ rs) more n h e =
    let p = and_both (not (eqb n r.number)) (without n rs) h in
    go r.applies refl p.0 (first_past rs more n p.1) e
  where
    go : (b : Bool) → r.applies ≡ b → not (eqb n r.number) ≡ true → (first_row (rs ++ more) ≡ n → NoRow rs × (first_row more ≡ n))
        → pick_row b r.number (first_row (rs ++ more)) ≡ n → NoRow (r ∷ rs) × (first_row more ≡ n)
    go true q m ih f = true-false (sym m ∙ ap not (eq-eqb n r.number (sym f)))
    go false q m ih f = let i = ih f in ((q, i.0), i.1)

-- where no row has number 0 and the first that applies has it, there is none
pub none_at-zero : (rs : List Row) → without 0 rs ≡ true → first_row rs ≡ 0 → NoRow rs
none_at-zero rs h e = (first_past rs [] 0 h (ap first_row (append-nil rs) ∙ e)).0

-- the number of the first row that applies stands in the table
first_of : (rs : List Row) (n : ℕ) → numbered rs ≡ true → First rs n → (n ≡ 0) ⊎ (in_table n ≡ true)
first_of [] n h f = inl f
first_of (r ∷ rs) n h (inl v) = inr (ap in_table v.1 ∙ (and_both (in_table r.number) (numbered rs) h).0)
first_of (r ∷ rs) n h (inr v) = first_of rs n (and_both (in_table r.number) (numbered rs) h).1 v.1

pub first-listed : (rs : List Row) → numbered rs ≡ true → (first_row rs ≡ 0) ⊎ (in_table (first_row rs) ≡ true)
first-listed rs h = first_of rs (first_row rs) h (first-first rs)

-- TESTS

pub or-false : (a b : Bool) → (a || b) ≡ false → (a ≡ false) × (b ≡ false)
or-false true b e = (e, cc)
or-false false b e = (refl, e)

pub or-intro : {a b : Bool} → a ≡ false → b ≡ false → (a || b) ≡ false
or-intro p q = rw (p, q) refl

pub or_right : (a b : Bool) → b ≡ false → (a || b) ≡ a
or_right true b e = refl
or_right false b e = e

pub or-true : (a b : Bool) → b ≡ true → (a || b) ≡ true
or-true true b e = refl
or-true false b e = e

pub not-intro : {a : Bool} → a ≡ true → not a ≡ false
not-intro p = rw p refl

-- WHAT AN OPTION HOLDS

pub is_some : {A : Type 0} (o : Option A) → is_none o ≡ false → (a : A) × (o ≡ some a)
unfolding is_none
is_some none e = true-false e
is_some (some a) e = (a, refl)

pub is_none-some : {A : Type 0} (o : Option A) (a : A) → o ≡ some a → is_none o ≡ false
unfolding is_none
is_none-some o a e = rw e refl

pub is_none-none : {A : Type 0} (o : Option A) → o ≡ none → is_none o ≡ true
unfolding is_none
is_none-none o e = rw e refl

pub holds-some : {A : Type 0} (p : A → Bool) (o : Option A) (a : A) → o ≡ some a → holds p o ≡ p a
unfolding holds
holds-some p o a e = rw e refl

pub or_else-some : {A : Type 0} (d : A) (o : Option A) (a : A) → o ≡ some a → or_else d o ≡ a
unfolding or_else
or_else-some d o a e = rw e refl
