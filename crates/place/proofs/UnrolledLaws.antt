-- Laws of an unrolled loop or rec, on plain lists: a head H before what stands at p, a new leaf in it, and behind it a piece and
-- its body once more.
use Prim.Native.Nat.{◌+◌, ◌-◌, ◌≤◌, ℕ}
use mathlib.Core.Path.{ap, refl, sym, ◌∙◌, ◌≡◌}
use mathlib.Core.List.{◌++◌, List, append_assoc}
use lib.ListN.{drop, length, length-append, length-drop, take, take-append-drop}
use lib.Seq.{length-take-le}
use native.Mathlib.Omega.{arith}
use Rattle.buffer.specs.Slice.{part, put}
use Rattle.buffer.proofs.SliceLaws.{drop-put, length_part, length-put, part-re, put-re}
use Rattle.place.specs.Edit.{spread, unrolled}
use Rattle.place.proofs.AtLaws.{split-take, take_split}

-- STORE BY STORE

pub spread-is : (l m₁ m₂ : List ℕ) (p n s used : ℕ) → m₁ ≡ put l (p + n + 20) (part l (p + s) (used - (p + s))) → m₂ ≡ put m₁ (p + 4) (part m₁ p n) → m₂ ≡ spread l p n s used
unfolding spread
spread-is l m₁ m₂ p n s used e₁ e₂ = e₂ ∙ ap (λ (y : List ℕ). put y (p + 4) (part y p n)) e₁

pub unrolled-is : (l m₁ m₂ m₃ m₄ H new piece : List ℕ) (p n s used : ℕ) → m₁ ≡ spread l p n s used → m₂ ≡ put m₁ p H → m₃ ≡ put m₂ (p + 12) new
    → m₄ ≡ put m₃ (p + 4 + n) piece → m₄ ≡ unrolled l p n s used H new piece
unfolding unrolled
unrolled-is l m₁ m₂ m₃ m₄ H new piece p n s used e₁ e₂ e₃ e₄ = cc

-- BEHIND THE RECORD

-- nothing changes from the end of what the record grows to
pub unrolled-behind : (l H new piece : List ℕ) (p n s used to : ℕ) → length H ≡ 4 → length new ≡ 8 → length piece ≡ 16 → s ≤ n → p + n ≤ used
    → used + (n - s) + 20 ≤ to → to ≤ length l → drop to (unrolled l p n s used H new piece) ≡ drop to l
unfolding spread unrolled
unrolled-behind l H new piece p n s used to l₁ l₂ l₃ a b c d =
    let v₁ : List ℕ = part l (p + s) (used - (p + s)) in
    let n₁ : length v₁ ≡ used - (p + s) = length_part l (p + s) (used - (p + s)) (omega arith) in
    let m₁ : List ℕ = put l (p + n + 20) v₁ in
    let z₁ : length m₁ ≡ length l = length-put l v₁ (p + n + 20) (omega arith) in
    let v₂ : List ℕ = part m₁ p n in
    let n₂ : length v₂ ≡ n = length_part m₁ p n (omega arith) in
    let m₂ : List ℕ = put m₁ (p + 4) v₂ in
    let z₂ : length m₂ ≡ length m₁ = length-put m₁ v₂ (p + 4) (omega arith) in
    let m₃ : List ℕ = put m₂ p H in
    let z₃ : length m₃ ≡ length m₂ = length-put m₂ H p (omega arith) in
    let m₄ : List ℕ = put m₃ (p + 12) new in
    let z₄ : length m₄ ≡ length m₃ = length-put m₃ new (p + 12) (omega arith) in
    drop-put m₄ piece (p + 4 + n) to (omega arith) (omega arith) ∙ drop-put m₃ new (p + 12) to (omega arith) (omega arith) ∙ drop-put m₂ H p to (omega arith) (omega arith)
    ∙ drop-put m₁ v₂ (p + 4) to (omega arith) (omega arith) ∙ drop-put l v₁ (p + n + 20) to (omega arith) (omega arith)

-- THE BYTES

-- y₄ and y are what stood where the piece goes
module _ (pre hd var leaf mid body post gap tail y₄ y z H new piece l₀ : List ℕ) (p n s used : ℕ)
    (is : l₀ ≡ pre ++ (hd ++ (var ++ (leaf ++ (mid ++ (body ++ (post ++ (gap ++ tail))))))))
    (ey : post ++ gap ≡ y₄ ++ (y ++ z)) (h₀ : length pre ≡ p) (h₁ : length hd ≡ 4) (h₂ : length var ≡ 4) (h₃ : length leaf ≡ 8) (h₄ : 16 + length mid ≡ s)
    (h₅ : s + length body ≡ n) (h₆ : p + n + length post ≡ used) (h₇ : length y₄ ≡ 4) (h₈ : length y ≡ 16) (h₉ : length z ≡ length body + length post)
    (l₁ : length H ≡ 4) (l₂ : length new ≡ 8) (l₃ : length piece ≡ 16) where
  first : part l₀ (p + s) (used - (p + s)) ≡ body ++ post
  first =
      part-re l₀ (pre ++ (hd ++ (var ++ (leaf ++ mid)))) (body ++ post) (gap ++ tail) (p + s) (used - (p + s)) (is ∙ simp append_assoc)
      (simp length-append (omega arith)) (simp length-append (omega arith))

  r : List ℕ
  r = body ++ (post ++ tail)

  a : List ℕ
  a = hd ++ (var ++ (leaf ++ (mid ++ body)))

  k₁ : List ℕ
  k₁ = pre ++ (a ++ (y₄ ++ (y ++ r)))

  shifted-rest : put l₀ (p + n + 20) (body ++ post) ≡ k₁
  unfolding k₁ r a
  shifted-rest =
      let g : post ++ (gap ++ tail) ≡ y₄ ++ (y ++ (z ++ tail)) = sym (append_assoc post gap tail) ∙ ap (λ (w : List ℕ). w ++ tail) ey ∙ simp append_assoc in
      put-re l₀ (pre ++ (hd ++ (var ++ (leaf ++ (mid ++ (body ++ (y₄ ++ y))))))) z tail (body ++ post) (p + n + 20) (is ∙ rw g (simp append_assoc))
      (simp length-append (omega arith)) (simp length-append (omega arith))
      ∙ simp append_assoc

  second : part k₁ p n ≡ a
  unfolding k₁ a
  second = part-re k₁ pre a (y₄ ++ (y ++ r)) p n refl h₀ (simp length-append (omega arith))

  k₂ : List ℕ
  k₂ = pre ++ (hd ++ (a ++ (y ++ r)))

  shifted-own : put k₁ (p + 4) a ≡ k₂
  unfolding k₁ k₂ a
  shifted-own =
      put-re k₁ (pre ++ hd) (var ++ (leaf ++ (mid ++ (body ++ y₄)))) (y ++ r) a (p + 4) (simp append_assoc) (simp length-append (omega arith)) (simp length-append (omega arith))
      ∙ simp append_assoc

  headed-own : put k₂ p H ≡ pre ++ (H ++ (a ++ (y ++ r)))
  unfolding k₂
  headed-own = put-re k₂ pre hd (a ++ (y ++ r)) H p refl h₀ (h₁ ∙ sym l₁)

  leafed : put (pre ++ (H ++ (a ++ (y ++ r)))) (p + 12) new ≡ pre ++ (H ++ (hd ++ (var ++ (new ++ (mid ++ (body ++ (y ++ r)))))))
  unfolding a
  leafed =
      put-re (pre ++ (H ++ (a ++ (y ++ r)))) (pre ++ (H ++ (hd ++ var))) leaf (mid ++ (body ++ (y ++ r))) new (p + 12) (simp append_assoc) (simp length-append (omega arith)) (h₃ ∙ sym l₂)
      ∙ simp append_assoc

  pieced : put (pre ++ (H ++ (hd ++ (var ++ (new ++ (mid ++ (body ++ (y ++ r)))))))) (p + 4 + n) piece ≡ pre ++ (H ++ (hd ++ (var ++ (new ++ (mid ++ (body ++ (piece ++ r)))))))
  pieced =
      put-re (pre ++ (H ++ (hd ++ (var ++ (new ++ (mid ++ (body ++ (y ++ r)))))))) (pre ++ (H ++ (hd ++ (var ++ (new ++ (mid ++ body)))))) y r piece (p + 4 + n) (simp append_assoc)
      (simp length-append (omega arith)) (h₈ ∙ sym l₃)
      ∙ simp append_assoc

  unrolled-parts : unrolled l₀ p n s used H new piece ≡ pre ++ (H ++ (hd ++ (var ++ (new ++ (mid ++ (body ++ (piece ++ (body ++ (post ++ tail)))))))))
  unfolding spread unrolled r
  unrolled-parts = cc (first, shifted-rest, second, shifted-own, headed-own, leafed, pieced)

-- The n bytes at p, of which the first s are a head, a variable, a leaf and mid, and the others the body, are unrolled in the
-- first `used` bytes, which grow by 20 and by the body.
pub unrolled-take : (l pre hd var leaf mid body post H new piece : List ℕ) (p n s used : ℕ) → take used l ≡ pre ++ (hd ++ (var ++ (leaf ++ (mid ++ (body ++ post)))))
    → used + (20 + length body) ≤ length l → length pre ≡ p → length hd ≡ 4 → length var ≡ 4 → length leaf ≡ 8 → 16 + length mid ≡ s → s + length body ≡ n
    → length H ≡ 4 → length new ≡ 8 → length piece ≡ 16
    → take (used + (20 + length body)) (unrolled l p n s used H new piece) ≡ pre ++ (H ++ (hd ++ (var ++ (new ++ (mid ++ (body ++ (piece ++ (body ++ post))))))))
unrolled-take l pre hd var leaf mid body post H new piece p n s used e fits h₀ h₁ h₂ h₃ h₄ h₅ l₁ l₂ l₃ =
    let b : ℕ = 20 + length body in
    let d : List ℕ = drop used l in
    let ld : length d ≡ length l - used = length-drop used l in
    let gap : List ℕ = take b d in
    let lg : length gap ≡ b = length-take-le b d (omega arith) in
    let tail : List ℕ = drop b d in
    let is : l ≡ pre ++ (hd ++ (var ++ (leaf ++ (mid ++ (body ++ (post ++ (gap ++ tail))))))) =
    take_split used l (pre ++ (hd ++ (var ++ (leaf ++ (mid ++ (body ++ post)))))) e ∙ rw (take-append-drop b d) (simp append_assoc) in
    let u : p + n + length post ≡ used =
    sym (sym (length-take-le used l (omega arith)) ∙ ap length e ∙ simp length-append (omega arith)) in
    let w : List ℕ = post ++ gap in
    let lw : length w ≡ length post + b = length-append post gap ∙ ap (λ (y : ℕ). length post + y) lg in
    let v : List ℕ = drop 4 w in
    let lv : length v ≡ length w - 4 = length-drop 4 w in
    let ey : w ≡ take 4 w ++ (take 16 v ++ drop 16 v) = rw (take-append-drop 16 v, take-append-drop 4 w) in
    let t =
    unrolled-parts pre hd var leaf mid body post gap tail (take 4 w) (take 16 v) (drop 16 v) H new piece l p n s used is ey h₀ h₁ h₂ h₃ h₄ h₅ u
    (length-take-le 4 w (omega arith)) (length-take-le 16 v (omega arith)) (length-drop 16 v ∙ omega arith) l₁ l₂ l₃ in
    split-take (used + b) _ (pre ++ (H ++ (hd ++ (var ++ (new ++ (mid ++ (body ++ (piece ++ (body ++ post))))))))) tail (t ∙ simp append_assoc)
    (simp length-append (omega arith))
