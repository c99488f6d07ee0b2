-- A store of one value has the count alone; a longer one the count, whether tare is larger, and zeros in a part that was filled.
use Prim.Native.Nat.{◌-◌, ◌<◌, suc, ℕ, ◌≤◌}
use mathlib.Core.Path.{◌≡◌, refl}
use mathlib.Core.List.{List, [], ◌∷◌, append-nil}
use native.Mathlib.Omega.{arith}
use borrow.Rule.Slice.PartMut.{put_mid}
use lib.ListN.{drop, length, replicate, set, take}
use lib.Seq.{drop-length, take_all}
use Rattle.weighing.specs.Weigh.{weighed}

pub fill_one : (store : List ℕ) (count larger : ℕ) → 1 ≤ length store → length (set store 0 count) ≤ 1 → set store 0 count ≡ weighed (length store) count larger
unfolding weighed
fill_one [] count larger h k = absurd (omega arith)
fill_one (x ∷ []) count larger h k = refl
fill_one (x ∷ y ∷ store) count larger h k = absurd (omega arith)

pub fill_more : (store zeros : List ℕ) (count larger : ℕ) → 1 < length (set store 0 count)
    → zeros ≡ replicate (length (take (length (set (set store 0 count) 1 larger) - 2) (drop 2 (set (set store 0 count) 1 larger)))) 0
    → put_mid 2 (length (set (set store 0 count) 1 larger) - 2) (set (set store 0 count) 1 larger) zeros ≡ weighed (length store) count larger
unfolding weighed
fill_more [] zeros count larger h e = absurd (omega arith)
fill_more (x ∷ []) zeros count larger h e = absurd (omega arith)
fill_more (x ∷ y ∷ store) zeros count larger h e =
    let n : suc (suc (length store)) - 2 ≡ length store = omega arith in
    rw (e, n, take_all (length store) store (omega arith), drop-length store) (simp append-nil)
