-- The part of a list from a up to e, as the borrow checker states a part of a slice.
use Prim.Native.Nat.{◌+◌, ◌-◌, suc, zero, ℕ, ◌≤◌}
use mathlib.Core.Path.{◌∙◌, ◌≡◌}
use mathlib.Core.List.{List, [], ◌∷◌}
use lib.ListN.{drop, length, length-drop, length-take, take}
use lib.Seq.{drop-drop, take_all, take-nil, take-take}
use native.Mathlib.Nat.{sub-zero, suc-sub-suc, zero-sub}
use native.Mathlib.Omega.{arith}

abbrev pub between : List ℕ → ℕ → ℕ → List ℕ
between l a e = take (e - a) (drop a l)

pub drop-take : (n m : ℕ) (l : List ℕ) → drop n (take m l) ≡ take (m - n) (drop n l)
drop-take zero m l = rw sub-zero
drop-take (suc n) zero l = rw zero-sub
drop-take (suc n) (suc m) [] = rw take-nil
drop-take (suc n) (suc m) (x ∷ l) = drop-take n m l ∙ rw suc-sub-suc

module _ (l : List ℕ) where
  pub between-all : between l 0 (length l) ≡ l
  between-all = take_all (length l - 0) l (omega arith)

  pub between-rest : (a : ℕ) → between l a (length l) ≡ drop a l
  between-rest a = take_all (length l - a) (drop a l) (omega (arith, length-drop a l))

  module _ (a e : ℕ) where
    pub length-between : e ≤ length l → length (between l a e) ≡ e - a
    length-between h = simp (length-take, length-drop) (omega arith)

    pub take-between : (n : ℕ) → a + n ≤ e → take n (between l a e) ≡ between l a (a + n)
    take-between n h =
        let q : a + n - a ≡ n = omega arith in
        take-take n (e - a) (drop a l) (omega arith) ∙ rw q

    pub drop-between : (n : ℕ) → drop n (between l a e) ≡ between l (a + n) e
    drop-between n =
        let q : e - a - n ≡ e - (a + n) = omega arith in
        drop-take n (e - a) (drop a l) ∙ rw (q, drop-drop)
