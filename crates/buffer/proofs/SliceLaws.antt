-- Laws of put, part and zeros. Callers write a list in parts, l ≡ p ++ (m ++ q), and cite put-re and part-re: then no
-- index is left. The laws of stores, below, take a loop of single bytes to one put.
use Prim.Native.Nat.{ℕ, zero, suc, ◌+◌, ◌-◌, ◌*◌, ◌^◌, ◌≤◌, ◌<◌}
use mathlib.Core.Path.{◌≡◌, refl, sym, ap, ◌∙◌}
use mathlib.Core.List.{List, [], ◌∷◌, ◌++◌, append_assoc}
use native.Mathlib.Nat.{add_assoc, add-zero}
use native.Mathlib.Numerals.{add-one}
use native.Mathlib.Omega.{arith}
use lib.ListN.{length, take, drop, get_or, set, length-append, length-take, length-drop, length-replicate, replicate, replicate-append-replicate, take-append-drop}
use lib.Seq.{take_at, drop_at, drop-append-add, drop-drop, length-take-le, take-add, get_or-drop, sets, sets-eq, drop-cons, take-suc}
use Rattle.buffer.specs.LittleEndian.{le, val, Bytes}
use Rattle.buffer.specs.Slice.{put, part, zeros}
use Rattle.buffer.proofs.LittleEndianLaws.{length-le, val-le}

pub put-re : (l p m q vs : List ℕ) (at : ℕ) → l ≡ p ++ (m ++ q) → length p ≡ at → length m ≡ length vs → put l at vs ≡ p ++ (vs ++ q)
unfolding put
put-re l p m q vs at e hp hm =
    rw (e, take_at p (m ++ q) at hp, ← hp, drop-append-add p (m ++ q) (length vs), drop_at m q (length vs) hm)

pub part-re : (l p m q : List ℕ) (at n : ℕ) → l ≡ p ++ (m ++ q) → length p ≡ at → length m ≡ n → part l at n ≡ m
unfolding part
part-re l p m q at n e hp hm = rw (e, drop_at p (m ++ q) at hp, take_at m q n hm)

-- A number that stands in the middle is read back, at every width.
pub val-part-re : (l p q : List ℕ) (w v at : ℕ) → l ≡ p ++ (le w v ++ q) → length p ≡ at → v < 256 ^ w → val (part l at w) ≡ v
val-part-re l p q w v at e hp h = rw (part-re l p (le w v) q at w e hp (length-le w v)) (val-le w v h)

pub length-put : (l vs : List ℕ) (at : ℕ) → at + length vs ≤ length l → length (put l at vs) ≡ length l
unfolding put
length-put l vs at h = simp (length-append, length-take, length-drop) (omega arith)

pub length_part : (l : List ℕ) (at n : ℕ) → at + n ≤ length l → length (part l at n) ≡ n
unfolding part
length_part l at n h = simp (length-take, length-drop) (omega arith)

pub length-zeros : (n : ℕ) → length (zeros n) ≡ n
unfolding zeros
length-zeros n = length-replicate n 0

pub zeros-add : (n m : ℕ) → zeros n ++ zeros m ≡ zeros (n + m)
unfolding zeros
zeros-add n m = replicate-append-replicate n m 0

pub drop-zeros : (m n : ℕ) → drop m (zeros n) ≡ zeros (n - m)
unfolding zeros
drop-zeros zero n = let e : n ≡ n - 0 = omega arith in ap (λ (j : ℕ). replicate j 0) e
drop-zeros (suc m) zero = let e : ◌≡◌ {A = ℕ} 0 (0 - suc m) = omega arith in ap (λ (j : ℕ). replicate j 0) e
drop-zeros (suc m) (suc n) = let e : n - m ≡ suc n - suc m = omega arith in drop-zeros m n ∙ ap (λ (j : ℕ). replicate j 0) e

pub bytes-zeros : (n : ℕ) → Bytes (zeros n)
unfolding zeros
bytes-zeros zero = tt
bytes-zeros (suc n) = (omega arith, bytes-zeros n)

-- A part and the part behind it are one.
part-append : (l : List ℕ) (at m n : ℕ) → part l at (m + n) ≡ part l at m ++ part l (at + m) n
unfolding part
part-append l at m n = take-add m n (drop at l) ∙ ap (λ (x : List ℕ). take m (drop at l) ++ take n x) (drop-drop m at l)

pub put-nil : (l : List ℕ) (at : ℕ) → put l at [] ≡ l
unfolding put
put-nil l at = rw (add-zero at) (take-append-drop at l)

-- Two neighbouring stores are one, the second behind the first.
pub put-put : (l vs ws : List ℕ) (at next : ℕ) → at + length vs ≡ next → next ≤ length l → put (put l at vs) next ws ≡ put l at (vs ++ ws)
unfolding put
put-put l vs ws at next e h =
    let p : List ℕ = take at l ++ vs in
    let r : List ℕ = drop next l in
    let hp : length p ≡ next = simp (length-append, length-take) (omega arith) in
    let d : drop (next + length ws) (p ++ r) ≡ drop (next + length ws) l =
    rw (← hp) (drop-append-add p (drop (length p) l) (length ws) ∙ drop-drop (length ws) (length p) l) in
    rw (e, ← append_assoc (take at l) vs r, take_at p r next hp, d, ← e)
    (simp (append_assoc, length-append, add_assoc))

-- The same with the second in front of the first.
pub put-put-front : (l vs ws : List ℕ) (at next : ℕ) → at + length vs ≡ next → next ≤ length l → put (put l next ws) at vs ≡ put l at (vs ++ ws)
unfolding put
put-put-front l vs ws at next e h =
    let q : List ℕ = ws ++ drop (next + length ws) l in
    let m : List ℕ = take (length vs) (drop at l) in
    let hp : length (take at l) ≡ at = length-take-le at l (omega arith) in
    let hm : length m ≡ length vs = simp (length-take, length-drop) (omega arith) in
    let f : put l next ws ≡ take at l ++ (m ++ q) = ap (λ (k : ℕ). take k l ++ q) (sym e) ∙ rw (take-add at (length vs) l) (append_assoc (take at l) m q) in
    put-re (put l next ws) (take at l) m q vs at f hp hm ∙ rw (← e) (simp (append_assoc, length-append, add_assoc))

-- What is behind the bytes written is as it was.
pub drop-put : (l vs : List ℕ) (at n : ℕ) → at + length vs ≤ n → at ≤ length l → drop n (put l at vs) ≡ drop n l
unfolding put
drop-put l vs at n h b =
    let p : List ℕ = take at l ++ vs in
    let m : ℕ = at + length vs in
    let hp : length p ≡ m = rw (length-append (take at l) vs, length-take-le at l b) in
    let e : length p + (n - m) ≡ n = omega arith in
    let f : m + (n - m) ≡ n = omega arith in
    rw (← append_assoc (take at l) vs (drop m l)) (ap (λ (j : ℕ). drop j (p ++ drop m l)) (sym e) ∙ drop-append-add p (drop m l) (n - m) ∙ drop-drop (n - m) m l ∙ ap (λ (j : ℕ). drop j l) f)

-- What is read behind the bytes written, or before them, is as it was.
part-put-after : (l vs : List ℕ) (at from n : ℕ) → at + length vs ≤ from → at ≤ length l → part (put l at vs) from n ≡ part l from n
unfolding part
part-put-after l vs at from n h b = ap (take n) (drop-put l vs at from h b)

pub part-put-before : (l vs : List ℕ) (at from n : ℕ) → from + n ≤ at → at ≤ length l → part (put l at vs) from n ≡ part l from n
unfolding put part
part-put-before l vs at from n h b =
    let r : ℕ = at - (from + n) in
    let m : List ℕ = part l from n in
    let q : List ℕ = vs ++ drop (at + length vs) l in
    let s : take at l ≡ take from l ++ (m ++ take r (drop (from + n) l)) =
    ap (λ (k : ℕ). take k l) {x = at} {y = from + (n + r)} (omega arith) ∙ take-add from (n + r) l ∙ ap (λ (x : List ℕ). take from l ++ x) (part-append l from n r) in
    part-re (put l at vs) (take from l) m (take r (drop (from + n) l) ++ q) from n (ap (λ (x : List ℕ). x ++ q) s ∙ simp append_assoc) (length-take-le from l (omega arith)) (length_part l from n (omega arith))

-- Stores of single bytes in a row are one put.
pub put-sets : (l : List ℕ) (at : ℕ) (vs : List ℕ) → at + length vs ≤ length l → sets l at vs ≡ put l at vs
unfolding put
put-sets l at vs h = sets-eq vs l at h ∙ append_assoc (take at l) vs (drop (at + length vs) l)

-- One element more at the end of a part.
pub part-snoc : (l : List ℕ) (at n : ℕ) → at + n < length l → part l at (n + 1) ≡ part l at n ++ (get_or l (at + n) 0 ∷ [])
unfolding part
part-snoc l at n h =
    let k : n < length (drop at l) = simp length-drop (omega arith) in
    rw (add-one n, take-suc (drop at l) n 0 k, get_or-drop at l n 0)

-- One element more at its front.
pub part-cons : (l : List ℕ) (at n : ℕ) → at < length l → part l at (n + 1) ≡ get_or l at 0 ∷ part l (at + 1) n
unfolding part
part-cons l at n h = rw (add-one n, add-one at, drop-cons l at 0 h)

-- The number that a part stands for, byte by byte.
pub val-part-zero : (l : List ℕ) (at : ℕ) → val (part l at 0) ≡ 0
unfolding val part
val-part-zero l at = refl

pub val-part : (l : List ℕ) (at next w : ℕ) → next ≡ at + 1 → at < length l → val (part l at (w + 1)) ≡ get_or l at 0 + 256 * val (part l next w)
unfolding val
val-part l at next w e h = rw (part-cons l at w h, e) refl

-- One store behind what was put.
store-next : (l vs : List ℕ) (at k x : ℕ) → at + length vs ≡ k → k < length l → set (put l at vs) k x ≡ put l at (vs ++ (x ∷ []))
store-next l vs at k x e h =
    let n : length (put l at vs) ≡ length l = length-put l vs at (omega arith) in
    put-sets (put l at vs) k (x ∷ []) (omega arith) ∙ put-put l vs (x ∷ []) at k e (omega arith)

-- A turn of each loop: what it has done, b, and its store.
pub copied_next : (d s b : List ℕ) (to from n : ℕ) → to + n < length d → from + n < length s
    → b ≡ put d to (part s from n) → set b (to + n) (get_or s (from + n) 0) ≡ put d to (part s from (n + 1))
copied_next d s b to from n h k e =
    let m : length (part s from n) ≡ n = length_part s from n (omega arith) in
    rw (e, part-snoc s from n k) (store-next d (part s from n) to (to + n) (get_or s (from + n) 0) (omega arith) h)

-- TWO MOVES OF NEIGHBOURING BYTES are one: b is after the first, c after the second.

module _ (to from m n count : ℕ) (all : m + n ≡ count) where
  pub copied-twice : (d s b c : List ℕ) → to + count ≤ length d → from + count ≤ length s
      → b ≡ put d to (part s from m) → c ≡ put b (to + m) (part s (from + m) n) → c ≡ put d to (part s from count)
  copied-twice d s b c hd hs eb ec =
      let k : length (part s from m) ≡ m = length_part s from m (omega arith) in
      ec ∙ ap (λ (x : List ℕ). put x (to + m) (part s (from + m) n)) eb ∙ put-put d (part s from m) (part s (from + m) n) to (to + m) (omega arith) (omega arith) ∙ ap (put d to) (sym (part-append s from m n) ∙ ap (part s from) all)

  pub moved-down-twice : (l b c : List ℕ) → to ≤ from → from + count ≤ length l
      → b ≡ put l to (part l from m) → c ≡ put b (to + m) (part b (from + m) n) → c ≡ put l to (part l from count)
  moved-down-twice l b c h k eb ec =
      let j : length (part l from m) ≡ m = length_part l from m (omega arith) in
      let e : part b (from + m) n ≡ part l (from + m) n = ap (λ (x : List ℕ). part x (from + m) n) eb ∙ part-put-after l (part l from m) to (from + m) n (omega arith) (omega arith) in
      copied-twice l l b c (omega arith) k eb (ec ∙ ap (put b (to + m)) e)

  pub moved-up-twice : (l b c : List ℕ) → from ≤ to → to + count ≤ length l
      → b ≡ put l (to + m) (part l (from + m) n) → c ≡ put b to (part b from m) → c ≡ put l to (part l from count)
  moved-up-twice l b c h k eb ec =
      let j : length (part l from m) ≡ m = length_part l from m (omega arith) in
      let e : part b from m ≡ part l from m = ap (λ (x : List ℕ). part x from m) eb ∙ part-put-before l (part l (from + m) n) (to + m) from m (omega arith) (omega arith) in
      ec ∙ ap (put b to) e ∙ ap (λ (x : List ℕ). put x to (part l from m)) eb ∙ put-put-front l (part l from m) (part l (from + m) n) to (to + m) (omega arith) (omega arith) ∙ ap (put l to) (sym (part-append l from m n) ∙ ap (part l from) all)
