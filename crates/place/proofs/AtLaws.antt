-- Laws of what stands at an index: its parts, what is read of it, and what is stored over it.
use Prim.Native.Nat.{◌+◌, ◌<◌, ◌≤◌, ◌^◌, ℕ}
use mathlib.Core.Path.{ap, refl, sym, ◌∙◌, ◌≡◌}
use mathlib.Core.List.{◌++◌, List, append_assoc}
use lib.ListN.{drop, length, length-append, take, take-append-drop}
use lib.Seq.{drop_at, length-take-le, take_at}
use native.Mathlib.Omega.{arith}
use Rattle.buffer.specs.LittleEndian.{le, val}
use Rattle.buffer.specs.Slice.{part, put}
use Rattle.buffer.proofs.LittleEndianLaws.{length-le}
use Rattle.buffer.proofs.SliceLaws.{part-re, put-re, val-part-re}
use Rattle.place.specs.At.{At}

-- THE FIRST BYTES OF A LIST, and what is behind them

pub take_split : (used : ℕ) (l m : List ℕ) → take used l ≡ m → l ≡ m ++ drop used l
take_split used l m e = sym (take-append-drop used l) ∙ ap (λ (y : List ℕ). y ++ drop used l) e

pub split-take : (used : ℕ) (l m t : List ℕ) → l ≡ m ++ t → length m ≡ used → take used l ≡ m
split-take used l m t e h = ap (take used) e ∙ take_at m t used h

-- a store over a part of the first bytes
pub put-take : (used : ℕ) (l pre mid post vs : List ℕ) (p : ℕ) → take used l ≡ pre ++ (mid ++ post) → used ≤ length l → length pre ≡ p → length mid ≡ length vs
    → take used (put l p vs) ≡ pre ++ (vs ++ post)
put-take used l pre mid post vs p e fits hp hm =
    let is : l ≡ pre ++ (mid ++ (post ++ drop used l)) = take_split used l (pre ++ (mid ++ post)) e ∙ simp append_assoc in
    let u : used ≡ length (pre ++ (mid ++ post)) = sym (length-take-le used l fits) ∙ ap length e in
    let n : length (pre ++ (vs ++ post)) ≡ used = sym (u ∙ simp length-append (rw hm)) in
    split-take used (put l p vs) (pre ++ (vs ++ post)) (drop used l) (put-re l pre mid (post ++ drop used l) vs p is hp hm ∙ simp append_assoc) n

-- PLACES

pub at_room : {l : List ℕ} {p : ℕ} {m : List ℕ} → At l p m → p + length m ≤ length l
at_room {l} {p} {m} h =
    let e : length l ≡ length h.pre + (length m + length h.post) = ap length h.is ∙ simp length-append in
    omega (arith, h.len)

pub at-index : {l : List ℕ} {p q : ℕ} {m : List ℕ} → At l p m → p ≡ q → At l q m
at-index h e = record { pre = h.pre; post = h.post; is = h.is; len = h.len ∙ e }

pub at_same : {l : List ℕ} {p : ℕ} {m n : List ℕ} → At l p m → m ≡ n → At l p n
at_same h e = record { pre = h.pre; post = h.post; is = h.is ∙ ap (λ (y : List ℕ). h.pre ++ (y ++ h.post)) e; len = h.len }

-- a part of what stands there
pub at_part : {l : List ℕ} {p : ℕ} {m : List ℕ} → At l p m → (a b c : List ℕ) (q : ℕ) → m ≡ a ++ (b ++ c) → p + length a ≡ q → At l q b
at_part h a b c q e n = record {
  pre = h.pre ++ a;
  post = c ++ h.post;
  is = h.is ∙ ap (λ (y : List ℕ). h.pre ++ (y ++ h.post)) e ∙ simp append_assoc;
  len = length-append h.pre a ∙ ap (λ (y : ℕ). y + length a) h.len ∙ n;
}

-- two neighbours
pub at_join : {l : List ℕ} {p q : ℕ} {m n : List ℕ} → At l p m → At l q n → p + length m ≡ q → At l p (m ++ n)
at_join {l} {p} {q} {m} {n} h k e =
    let hp : length (h.pre ++ m) ≡ q = length-append h.pre m ∙ omega (arith, h.len) in
    let a : drop q l ≡ h.post = ap (drop q) (h.is ∙ sym (append_assoc h.pre m h.post)) ∙ drop_at (h.pre ++ m) h.post q hp in
    let b : drop q l ≡ n ++ k.post = ap (drop q) k.is ∙ drop_at k.pre (n ++ k.post) q k.len in
    record { pre = h.pre; post = k.post; is = h.is ∙ ap (λ (y : List ℕ). h.pre ++ (m ++ y)) (sym a ∙ b) ∙ simp append_assoc; len = h.len }

-- WHAT IS READ

pub part_at : {l : List ℕ} {p : ℕ} {m : List ℕ} → At l p m → (n : ℕ) → length m ≡ n → part l p n ≡ m
part_at {l} {p} {m} h n e = part-re l h.pre m h.post p n h.is h.len e

pub val_at : {l : List ℕ} {p : ℕ} (w v : ℕ) → At l p (le w v) → v < 256 ^ w → val (part l p w) ≡ v
val_at {l} {p} w v h b = val-part-re l h.pre h.post w v p h.is h.len b

-- a number of 4 bytes, and its bytes
pub word_read : {l : List ℕ} {p : ℕ} (v : ℕ) → At l p (le 4 v) → v < 4294967296 → (val (part l p 4) ≡ v) × (part l p 4 ≡ le 4 v)
word_read v h b = (val_at 4 v h b, part_at h 4 (length-le 4 v))

-- WHAT IS STORED OVER IT

pub put-at : {l : List ℕ} {p : ℕ} {m : List ℕ} (h : At l p m) (vs : List ℕ) → length m ≡ length vs → put l p vs ≡ h.pre ++ (vs ++ h.post)
put-at {l} {p} {m} h vs e = put-re l h.pre m h.post vs p h.is h.len e

-- a store of what stands there changes nothing
pub put_same : {l : List ℕ} {p : ℕ} {m : List ℕ} → At l p m → put l p m ≡ l
put_same {l} {p} {m} h = put-at h m refl ∙ sym h.is

-- a store over a part is a store over the whole
pub put-part : {l : List ℕ} {p : ℕ} {m : List ℕ} → At l p m → (a b c vs : List ℕ) (q : ℕ) → m ≡ a ++ (b ++ c) → p + length a ≡ q → length b ≡ length vs
    → put l q vs ≡ put l p (a ++ (vs ++ c))
unfolding at_part
put-part {l} {p} {m} h a b c vs q e n s =
    put-at (at_part h a b c q e n) vs s
    ∙ sym (put-at h (a ++ (vs ++ c)) (ap length e ∙ simp length-append (omega arith)) ∙ simp append_assoc)
