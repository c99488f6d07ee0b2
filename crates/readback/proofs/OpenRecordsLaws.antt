-- Records that are begun and not ended: what is kept of their heads, and what one more piece of the output leaves to do.
use Prim.Native.Nat.{◌+◌, ◌-◌, ◌<◌, ◌≤◌, ℕ}
use mathlib.Core.Path.{ap, refl, subst, sym, ◌∙◌, ◌≡◌}
use mathlib.Core.Bool.{Bool, false, true}
use mathlib.Core.List.{◌++◌, List, [], append_assoc, append-nil}
use borrow.Author.Tests.{eq-eqb, ne_eqb}
use lib.Dec.{eqb, lit<}
use lib.ListN.{drop, length, length-append, take}
use lib.Seq.{length-take-le, take_at}
use native.Mathlib.Omega.{arith}
use Rattle.buffer.specs.LittleEndian.{le, val}
use Rattle.buffer.specs.Slice.{part, put}
use Rattle.place.specs.At.{At}
use Rattle.place.specs.Heads.{record_head}
use Rattle.record.specs.Program.{block_size, encode_block, encode_bound}
use Rattle.rules.specs.Syntax.{Block, Bound, empty}
use Rattle.buffer.proofs.LittleEndianLaws.{length-le}
use Rattle.buffer.proofs.SliceLaws.{drop-put, length-put, part-put-before, put-nil, put-put, put-re}
use Rattle.place.proofs.HeadsLaws.{kind_at, length_at, length-record_head}
use Rattle.place.proofs.ProgramBytesLaws.{block_size-empty, encode_block-empty}
use Rattle.record.proofs.ProgramLaws.{length-encode_block}
use Rattle.record.proofs.ReadingLaws.{length-encode_leaf}
use Rattle.readback.proofs.PieceLaws.{length-loop_bytes}
use Rattle.readback.specs.OpenRecords.{Linked, OpenRecords, all_ended, closed, end_of, finish, loop_bytes, opened, opening}

-- A LENGTH STORED OVER ANOTHER NUMBER

put-over : (l a m c vs : List ℕ) (p q : ℕ) → p + length a ≡ q → length m ≡ length vs → p ≤ length l → put (put l p (a ++ (m ++ c))) q vs ≡ put l p (a ++ (vs ++ c))
unfolding put
put-over l a m c vs p q eq em fits =
    let d : List ℕ = drop (p + length (a ++ (m ++ c))) l in
    let n : length (a ++ (m ++ c)) ≡ length (a ++ (vs ++ c)) = simp length-append (rw em) in
    put-re (put l p (a ++ (m ++ c))) (take p l ++ a) m (c ++ d) vs q (simp append_assoc) (length-append (take p l) a ∙ rw (length-take-le p l fits) eq) em
    ∙ rw (← n) (simp append_assoc)

-- a store over a shorter one
pub put-again : (l vs ws : List ℕ) (p : ℕ) → length vs ≤ length ws → p ≤ length l → put (put l p vs) p ws ≡ put l p ws
unfolding put
put-again l vs ws p n fits =
    rw (take_at (take p l) (vs ++ drop (p + length vs) l) p (length-take-le p l fits)) (ap (λ (y : List ℕ). take p l ++ (ws ++ y)) (drop-put l vs p (p + length ws) (omega arith) fits))

-- a block's bytes c are written and its head is closed
pub closes-nest : (l c : List ℕ) (o q e w n : ℕ) → n ≡ length c → q ≡ o + 4 → e ≡ o + 4 + n → q ≤ length l
    → closed false (put (put l o (record_head 1 w)) q c) o e ≡ put l o (record_head 1 (4 + n) ++ c)
unfolding closed record_head
closes-nest l c o q e w n en eq ee fits =
    let z : e - o ≡ 4 + n = omega arith in
    let s : put (put l o (le 2 w ++ le 2 1)) q c ≡ put l o ([] ++ (le 2 w ++ (le 2 1 ++ c))) =
    put-put l (le 2 w ++ le 2 1) c o q (ap (λ (y : ℕ). o + y) (length-record_head 1 w) ∙ sym eq) fits ∙ ap (put l o) (append_assoc (le 2 w) (le 2 1) c) in
    rw (z, s) (put-over l [] (le 2 w) (le 2 1 ++ c) (le 2 (4 + n)) o o (omega arith) (length-le 2 w ∙ sym (length-le 2 (4 + n))) (omega arith) ∙ ap (put l o) (sym (append_assoc (le 2 (4 + n)) (le 2 1) c)))

-- and the same of a loop
pub closes-loop : (l c : List ℕ) (o q e x w v n : ℕ) (b : Bound) → n ≡ length c → q ≡ o + 20 → e ≡ o + 20 + n → q ≤ length l
    → closed true (put (put l o (loop_bytes x b w v)) q c) o e ≡ put l o (loop_bytes x b (20 + n) (4 + n) ++ c)
unfolding closed loop_bytes record_head
closes-loop l c o q e x w v n b en eq ee fits =
    let z : e - o ≡ 20 + n = omega arith in
    let z₂ : e - o - 16 ≡ 4 + n = omega arith in
    let t : List ℕ = le 2 3 ++ (le 4 x ++ encode_bound b) in
    let s : put (put l o (loop_bytes x b w v)) q c ≡ put l o ([] ++ (le 2 w ++ (t ++ (le 2 v ++ (le 2 1 ++ c))))) =
    put-put l (loop_bytes x b w v) c o q (ap (λ (y : ℕ). o + y) (length-loop_bytes x b w v) ∙ sym eq) fits ∙ ap (put l o) (simp append_assoc) in
    let one : put (put l o ([] ++ (le 2 w ++ (t ++ (le 2 v ++ (le 2 1 ++ c)))))) o (le 2 (20 + n)) ≡ put l o (le 2 (20 + n) ++ (t ++ (le 2 v ++ (le 2 1 ++ c)))) =
    put-over l [] (le 2 w) (t ++ (le 2 v ++ (le 2 1 ++ c))) (le 2 (20 + n)) o o (omega arith) (length-le 2 w ∙ sym (length-le 2 (20 + n))) (omega arith) in
    let two : put (put l o ((le 2 (20 + n) ++ t) ++ (le 2 v ++ (le 2 1 ++ c)))) (o + 16) (le 2 (4 + n)) ≡ put l o ((le 2 (20 + n) ++ t) ++ (le 2 (4 + n) ++ (le 2 1 ++ c))) =
    put-over l (le 2 (20 + n) ++ t) (le 2 v) (le 2 1 ++ c) (le 2 (4 + n)) o (o + 16) (ap (λ (y : ℕ). o + y) (before-two x b (20 + n))) (length-le 2 v ∙ sym (length-le 2 (4 + n))) (omega arith) in
    rw (z₂, z, s, one, ← append_assoc (le 2 (20 + n)) t (le 2 v ++ (le 2 1 ++ c))) (two ∙ ap (put l o) (simp append_assoc))
  where
    before-two : (y : ℕ) (d : Bound) (m : ℕ) → length (le 2 m ++ (le 2 3 ++ (le 4 y ++ encode_bound d))) ≡ 16
    before-two y d m = simp (length-append, length-le, length-encode_leaf)

-- what the code stores, by the kind read
module _ (l l₁ : List ℕ) (h o n kind : ℕ) (read : kind ≡ val (part l (h + 2) 2)) (en : n ≡ o - h) (e₁ : l₁ ≡ put l h (le 2 n)) where
  pub closed-loop : kind ≡ 3 → (l₂ : List ℕ) → l₂ ≡ put l₁ (h + 16) (le 2 (n - 16)) → l₂ ≡ closed (eqb (val (part l (h + 2) 2)) 3) l h o
  unfolding closed
  closed-loop three l₂ e₂ = rw (← read, eq-eqb kind 3 three, ← en, ← e₁) e₂

  pub closed-nest : (kind ≡ 3 → ⊥) → l₁ ≡ closed (eqb (val (part l (h + 2) 2)) 3) l h o
  unfolding closed
  closed-nest other = rw (← read, ne_eqb kind 3 other, ← en) e₁

-- WHAT IS LEFT TO DO

-- the innermost record is ended
pub finish-close : (l : List ℕ) (o h : ℕ) (f : Bool) (ps : OpenRecords) → finish l o (opened h f empty ps) ≡ finish (closed f l h o) o ps
unfolding finish
finish-close l o h f ps =
    let e : o + block_size empty ≡ o = omega (arith, block_size-empty) in
    rw (e, encode_block-empty, put-nil l o) refl

-- the first bytes m of what is to come in it are written
pub finish-more : (l m : List ℕ) (o q h : ℕ) (f : Bool) (b r : Block) (ps : OpenRecords) → encode_block b ≡ m ++ encode_block r → o + length m ≡ q → q ≤ length l
    → finish l o (opened h f b ps) ≡ finish (put l o m) q (opened h f r ps)
unfolding finish
finish-more l m o q h f b r ps is eq fits =
    let n : o + block_size b ≡ q + block_size r = omega (arith, length-encode_block b, length-encode_block r, ap length is, length-append m (encode_block r)) in
    rw (n, is) (ap (λ (y : List ℕ). finish (closed f y h (q + block_size r)) (q + block_size r) ps) (sym (put-put l m (encode_block r) o q eq fits)))

-- a record is begun in it, with any lengths, which closing it mends
pub finish-open : (l m m₀ : List ℕ) (o q h : ℕ) (f g : Bool) (b c r : Block) (ps : OpenRecords) → encode_block b ≡ m ++ (encode_block c ++ encode_block r)
    → closed g (put (put l o m₀) q (encode_block c)) o (q + block_size c) ≡ put l o (m ++ encode_block c) → o + length m ≡ q → q + block_size c ≤ length l
    → finish l o (opened h f b ps) ≡ finish (put l o m₀) q (opened o g c (opened h f r ps))
unfolding finish
finish-open l m m₀ o q h f g b c r ps is closes eq fits =
    let n : o + length (m ++ encode_block c) ≡ q + block_size c = omega (arith, length-append m (encode_block c), length-encode_block c) in
    finish-more l (m ++ encode_block c) o (q + block_size c) h f b r ps (is ∙ sym (append_assoc m (encode_block c) (encode_block r))) n fits
    ∙ ap (λ (y : List ℕ). finish y (q + block_size c) (opened h f r ps)) (sym closes)

-- where it ends

pub end-close : (o h : ℕ) (f : Bool) (ps : OpenRecords) → end_of o (opened h f empty ps) ≡ end_of o ps
unfolding end_of
end-close o h f ps = ap (λ (y : ℕ). end_of y ps) {x = o + block_size empty} {y = o} (omega (arith, block_size-empty))

pub end_more : (o n h : ℕ) (f : Bool) (b r : Block) (ps : OpenRecords) → block_size b ≡ n + block_size r → end_of o (opened h f b ps) ≡ end_of (o + n) (opened h f r ps)
unfolding end_of
end_more o n h f b r ps e = ap (λ (y : ℕ). end_of y ps) {x = o + block_size b} {y = o + n + block_size r} (omega arith)

pub end-open : (o n h : ℕ) (f g : Bool) (b c r : Block) (ps : OpenRecords) → block_size b ≡ n + block_size c + block_size r
    → end_of o (opened h f b ps) ≡ end_of (o + n) (opened o g c (opened h f r ps))
unfolding end_of
end-open o n h f g b c r ps e = ap (λ (y : ℕ). end_of y ps) {x = o + block_size b} {y = o + n + block_size c + block_size r} (omega arith)

pub end-least : (o : ℕ) (ps : OpenRecords) → o ≤ end_of o ps
unfolding end_of
end-least o all_ended = omega arith
end-least o (opened h f b ps) = omega (arith, end-least (o + block_size b) ps)

pub end-room : (o h : ℕ) (f : Bool) (b : Block) (ps : OpenRecords) → o + block_size b ≤ end_of o (opened h f b ps)
unfolding end_of
end-room o h f b ps = end-least (o + block_size b) ps

-- HEADS THAT ARE KEPT

pub opening-least : (f : Bool) → 4 ≤ opening f
unfolding opening
opening-least false = omega arith
opening-least true = omega arith

pub opening-loop : (n : ℕ) (f : Bool) → eqb n 3 ≡ f → n ≡ 3 → opening f ≡ 20
unfolding opening
opening-loop n f e three = ap opening (sym e ∙ eq-eqb n 3 three)

-- by what is written behind them
linked-kept : (ps : OpenRecords) (l vs : List ℕ) (o p q : ℕ) → o ≤ q → q ≤ length l → Linked l o p ps → Linked (put l q vs) o p ps
linked-kept all_ended l vs o p q b fits s = tt
linked-kept (opened h f c ps) l vs o p q b fits s =
    let n = opening-least f in
    let room = s.1 in
    let a : part (put l q vs) (h + 2) 2 ≡ part l (h + 2) 2 = part-put-before l vs q (h + 2) 2 (omega arith) fits in
    let d : part (put l q vs) h 2 ≡ part l h 2 = part-put-before l vs q h 2 (omega arith) fits in
    (s.0, s.1, rw a s.2, rw d (linked-kept ps l vs h (val (part l h 2)) q (omega arith) fits s.3))

-- at a later index
linked-later : (ps : OpenRecords) (l : List ℕ) (o q p : ℕ) → o ≤ q → Linked l o p ps → Linked l q p ps
linked-later all_ended l o q p b s = tt
linked-later (opened h f c ps) l o q p b s = let room = s.1 in (s.0, omega arith, s.2, s.3)

pub linked-behind : (ps : OpenRecords) (l vs : List ℕ) (o q p : ℕ) → o ≤ q → o ≤ length l → Linked l o p ps → Linked (put l o vs) q p ps
linked-behind ps l vs o q p b fits s = linked-later ps (put l o vs) o q p b (linked-kept ps l vs o p o (omega arith) fits s)

-- when the innermost is ended
pub linked-close : (ps : OpenRecords) (l : List ℕ) (o h : ℕ) (f : Bool) → h + opening f ≤ o → o ≤ length l → Linked l h (val (part l h 2)) ps
    → Linked (closed f l h o) o (val (part l h 2)) ps
unfolding closed opening
linked-close ps l o h false room fits s =
    linked-later ps (put l h (le 2 (o - h))) h o (val (part l h 2)) (omega arith) (linked-kept ps l (le 2 (o - h)) h (val (part l h 2)) h (omega arith) (omega arith) s)
linked-close ps l o h true room fits s =
    let a : List ℕ = le 2 (o - h) in
    let n : length (put l h a) ≡ length l = length-put l a h (rw (length-le 2 (o - h)) (omega arith)) in
    let t : Linked (put l h a) h (val (part l h 2)) ps = linked-kept ps l a h (val (part l h 2)) h (omega arith) (omega arith) s in
    linked-later ps (put (put l h a) (h + 16) (le 2 (o - h - 16))) h o (val (part l h 2)) (omega arith)
    (linked-kept ps (put l h a) (le 2 (o - h - 16)) h (val (part l h 2)) (h + 16) (omega arith) (omega arith) t)

stands : (l m : List ℕ) (p : ℕ) → p ≤ length l → At (put l p m) p m
unfolding put
stands l m p fits = record { pre = take p l; post = drop (p + length m) l; is = refl; len = length-take-le p l fits }

-- when one more is begun
linked-open : (ps : OpenRecords) (l m : List ℕ) (o p kind : ℕ) (f : Bool) (b : Block) → o ≤ length l → p < 65536 → kind < 65536 → eqb kind 3 ≡ f → Linked l o p ps
    → Linked (put l o (record_head kind p ++ m)) (o + opening f) o (opened o f b ps)
linked-open ps l m o p kind f b fits small kinds is s =
    let vs : List ℕ = record_head kind p ++ m in
    let st : At (put l o vs) o vs = stands l vs o fits in
    (refl, omega arith, rw (kind_at kind p m st kinds) is, rw (length_at kind p m st small) (linked-kept ps l vs o p o (omega arith) fits s))

pub linked-loop : (ps : OpenRecords) (l : List ℕ) (o p x : ℕ) (n : Bound) (b : Block) → o ≤ length l → p < 65536 → Linked l o p ps
    → Linked (put l o (loop_bytes x n p 0)) (o + 20) o (opened o true b ps)
unfolding loop_bytes opening
linked-loop ps l o p x n b fits small s = linked-open ps l (le 4 x ++ (encode_bound n ++ record_head 1 0)) o p 3 true b fits small (lit< tt) refl s

pub linked-nest : (ps : OpenRecords) (l : List ℕ) (o p : ℕ) (b : Block) → o ≤ length l → p < 65536 → Linked l o p ps
    → Linked (put l o (record_head 1 p)) (o + 4) o (opened o false b ps)
unfolding opening
linked-nest ps l o p b fits small s =
    subst (λ (y : List ℕ). Linked (put l o y) (o + 4) o (opened o false b ps)) (append-nil (record_head 1 p)) (linked-open ps l [] o p 1 false b fits small (lit< tt) refl s)
