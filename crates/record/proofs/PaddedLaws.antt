-- A record at a buffer's front, and zeros behind it.
use Prim.Native.Nat.{◌+◌, ◌-◌, ℕ, ◌≤◌}
use mathlib.Core.Path.{ap, refl, sym, ◌∙◌, ◌≡◌}
use mathlib.Core.List.{◌++◌, List, [], append-nil}
use lib.ListN.{drop, length, length-append, length-drop, length-replicate, replicate, take, take-append-drop}
use lib.Seq.{drop-append-add, drop_at, length-take-le, take_at}
use native.Mathlib.Omega.{arith}
use Rattle.buffer.specs.Slice.{put, zeros}
use Rattle.buffer.proofs.SliceLaws.{drop-zeros, length-zeros, put-put, put-re}
use Rattle.record.specs.Answers.{padded}

pub take-padded : (n : ℕ) (bytes : List ℕ) → take (length bytes) (padded n bytes) ≡ bytes
unfolding padded
take-padded n bytes = take_at bytes (replicate (n - length bytes) 0) (length bytes) refl

pub length-padded : (n : ℕ) (bytes : List ℕ) → length bytes ≤ n → length (padded n bytes) ≡ n
unfolding padded
length-padded n bytes h = length-append bytes (replicate (n - length bytes) 0) ∙ omega (arith, length-replicate {A = ℕ} (n - length bytes) 0)

pub fits-padded : (n : ℕ) (bytes : List ℕ) → length bytes ≤ length (padded n bytes)
unfolding padded
fits-padded n bytes = omega (arith, length-append bytes (replicate (n - length bytes) 0))

-- every byte behind the record, up to the buffer's end, is zero
pub zero-padded : (n : ℕ) (bytes : List ℕ) → drop (length bytes) (padded n bytes) ≡ replicate (n - length bytes) 0
unfolding padded
zero-padded n bytes = drop_at bytes (replicate (n - length bytes) 0) (length bytes) refl

-- the same as the zeros that the code writes
pub padded-zeros : (n m : ℕ) (bytes : List ℕ) → n - length bytes ≡ m → padded n bytes ≡ bytes ++ zeros m
unfolding padded zeros
padded-zeros n m bytes e = rw e

pub drop-padded : (n m : ℕ) (bytes : List ℕ) → length bytes ≤ m → drop m (padded n bytes) ≡ zeros (n - m)
drop-padded n m bytes h =
    let a : ℕ = n - length bytes in
    let b : ℕ = m - length bytes in
    let e : length bytes + b ≡ m = omega arith in
    let f : a - b ≡ n - m = omega arith in
    ap (drop m) (padded-zeros n a bytes refl) ∙ ap (λ (y : ℕ). drop y (bytes ++ zeros a)) (sym e) ∙ drop-append-add bytes (zeros a) b
    ∙ drop-zeros b a ∙ ap zeros f

-- WHAT THE CODE WRITES

-- a store over the whole of a list is all that is left
put_whole : (l vs : List ℕ) → length vs ≡ length l → put l 0 vs ≡ vs
put_whole l vs e = put-re l [] l [] vs 0 (sym (append-nil l)) refl (sym e) ∙ append-nil vs

pub put-padded : (l bytes : List ℕ) (m : ℕ) → length bytes ≡ m → m ≤ length l → put (put l 0 bytes) m (zeros (length l - m)) ≡ padded (length l) bytes
put-padded l bytes m e h =
    let z : List ℕ = zeros (length l - m) in
    let n : length (bytes ++ z) ≡ length l = length-append bytes z ∙ omega (arith, length-zeros (length l - m)) in
    put-put l bytes z 0 m (omega arith) h ∙ put_whole l (bytes ++ z) n
    ∙ sym (padded-zeros (length l) (length l - m) bytes (ap (λ (y : ℕ). length l - y) e))

-- the same of two stores one after the other
pub written-padded : (out out₁ out₂ bytes : List ℕ) (n : ℕ) → length bytes ≡ n → n ≤ length out → out₁ ≡ put out 0 bytes → out₂ ≡ put out₁ n (zeros (length out - n))
    → out₂ ≡ padded (length out) bytes
written-padded out out₁ out₂ bytes n e h e₁ e₂ =
    e₂ ∙ ap (λ (y : List ℕ). put y n (zeros (length out - n))) e₁ ∙ put-padded out bytes n e h

-- a record that stands there already, and zeros written behind it
pub cleared-padded : (l bytes : List ℕ) (m : ℕ) → take m l ≡ bytes → m ≤ length l → put l m (zeros (length l - m)) ≡ padded (length l) bytes
cleared-padded l bytes m e h =
    let z : List ℕ = zeros (length l - m) in
    let n : length (take m l) ≡ m = length-take-le m l h in
    let whole : l ≡ take m l ++ (drop m l ++ []) = sym (ap (λ (q : List ℕ). take m l ++ q) (append-nil (drop m l)) ∙ take-append-drop m l) in
    let rest : length (drop m l) ≡ length z = length-drop m l ∙ sym (length-zeros (length l - m)) in
    let s : length l - length bytes ≡ length l - m = ap (λ (y : ℕ). length l - y) (ap length (sym e) ∙ n) in
    put-re l (take m l) (drop m l) [] z m whole n rest ∙ ap (λ (q : List ℕ). take m l ++ q) (append-nil z) ∙ ap (λ (q : List ℕ). q ++ z) e
    ∙ sym (padded-zeros (length l) (length l - m) bytes s)
