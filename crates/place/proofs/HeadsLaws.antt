-- Laws of records' heads, and of their lengths brought up to date.
use Prim.Native.Nat.{◌*◌, ◌+◌, ◌-◌, ◌<◌, ◌≤◌, suc, zero, ℕ}
use mathlib.Core.Path.{ap, refl, sym, ◌∙◌, ◌≡◌}
use mathlib.Core.List.{◌++◌, List, [], append_assoc, append-nil, ◌∷◌}
use lib.ListN.{length, length-append}
use native.Mathlib.Omega.{arith}
use Rattle.buffer.specs.LittleEndian.{le, val}
use Rattle.buffer.specs.Slice.{part, put}
use Rattle.record.specs.Record.{encode_record}
use Rattle.buffer.proofs.LittleEndianLaws.{length-le}
use Rattle.buffer.proofs.SliceLaws.{length-put, put-put, put-re}
use Rattle.place.specs.At.{At}
use Rattle.place.specs.Heads.{Lengths, heads_around, record_head, relength}
use Rattle.place.proofs.AtLaws.{at_part, val_at, word_read}

-- ONE HEAD

pub length-record_head : (kind n : ℕ) → length (record_head kind n) ≡ 4
unfolding record_head
length-record_head kind n = simp (length-append, length-le)

-- a record is its head and its contents
pub encode_record-head : (kind n : ℕ) (b : List ℕ) → 4 + length b ≡ n → encode_record kind b ≡ record_head kind n ++ b
unfolding record_head encode_record
encode_record-head kind n b e = rw e (sym (append_assoc (le 2 n) (le 2 kind) b))

-- the length and the kind that are read
pub length_at : {l : List ℕ} {p : ℕ} (kind n : ℕ) (m : List ℕ) → At l p (record_head kind n ++ m) → n < 65536 → val (part l p 2) ≡ n
unfolding record_head
length_at {l} {p} kind n m h b =
    val_at 2 n (at_part h [] (le 2 n) (le 2 kind ++ m) p (append_assoc (le 2 n) (le 2 kind) m) (omega arith)) b

pub kind_at : {l : List ℕ} {p : ℕ} (kind n : ℕ) (m : List ℕ) → At l p (record_head kind n ++ m) → kind < 65536 → val (part l (p + 2) 2) ≡ kind
unfolding record_head
kind_at {l} {p} kind n m h b =
    val_at 2 kind (at_part h (le 2 n) (le 2 kind) m (p + 2) (append_assoc (le 2 n) (le 2 kind) m) (ap (λ (y : ℕ). p + y) (length-le 2 n))) b

-- the kind and the number of a record that holds one number
pub leaf-read : {l : List ℕ} {p : ℕ} (kind v q r : ℕ) → At l p (record_head kind 8 ++ le 4 v) → q ≡ p + 2 → r ≡ p + 4 → kind < 65536 → v < 4294967296
    → (val (part l q 2) ≡ kind) × (val (part l r 4) ≡ v) × (part l r 4 ≡ le 4 v)
leaf-read {l} {p} kind v q r h eq er hk hv =
    let n : At l r (le 4 v) = at_part h (record_head kind 8) (le 4 v) [] r (simp append-nil) (rw (length-record_head kind 8) (sym er)) in
    let w = word_read v n hv in
    (rw eq (kind_at kind 8 (le 4 v) h hk), w.0, w.1)

-- a head written in two stores
pub put-head : (l : List ℕ) (p kind n : ℕ) → p + 4 ≤ length l → put (put l p (le 2 n)) (p + 2) (le 2 kind) ≡ put l p (record_head kind n)
unfolding record_head
put-head l p kind n h = put-put l (le 2 n) (le 2 kind) p (p + 2) (ap (λ (y : ℕ). p + y) (length-le 2 n)) (omega arith)

-- another length in a head
pub put-length : (l pre post : List ℕ) (p kind n m : ℕ) → l ≡ pre ++ (record_head kind n ++ post) → length pre ≡ p → put l p (le 2 m) ≡ pre ++ (record_head kind m ++ post)
unfolding record_head
put-length l pre post p kind n m e h =
    put-re l pre (le 2 n) (le 2 kind ++ post) (le 2 m) p (e ∙ simp append_assoc) h (length-le 2 n ∙ sym (length-le 2 m)) ∙ simp append_assoc

-- HEADS AROUND

pub length-heads_around : (kind : ℕ) (es : List ℕ) (n : ℕ) → length (heads_around kind es n) ≡ 4 * length es
unfolding heads_around
length-heads_around kind [] n = refl
length-heads_around kind (e ∷ es) n = simp (length-append, length-record_head, length-heads_around kind es n) (omega arith)

-- THE LENGTHS BROUGHT UP TO DATE

pub relength-zero : (f : ℕ → ℕ) (p : ℕ) (l : List ℕ) → relength f 0 p l ≡ l
unfolding relength
relength-zero f p l = refl

pub relength-suc : (f : ℕ → ℕ) (count p : ℕ) (l : List ℕ) → relength f (suc count) p l ≡ relength f count (p + 4) (put l p (le 2 (f (val (part l p 2)))))
unfolding relength
relength-suc f count p l = refl

-- one turn of the loop: what is left to do of the present list is what was to do of the first
pub relength-turn : (f : ℕ → ℕ) (count i p q : ℕ) (l m to : List ℕ) → i < count → q ≡ p + 4 → m ≡ put l p (le 2 (f (val (part l p 2))))
    → relength f (count - i) p l ≡ to → relength f (count - (i + 1)) q m ≡ to
relength-turn f count i p q l m to h eq em e =
    let s : count - i ≡ suc (count - (i + 1)) = omega arith in
    rw (eq, em) (sym (relength-suc f (count - (i + 1)) p l) ∙ rw s at e)

pub length-relength : (f : ℕ → ℕ) (count p : ℕ) (l : List ℕ) → p + 4 * count ≤ length l → length (relength f count p l) ≡ length l
length-relength f zero p l h = ap length (relength-zero f p l)
length-relength f (suc count) p l h =
    let m : List ℕ = put l p (le 2 (f (val (part l p 2)))) in
    let e : length m ≡ length l = length-put l (le 2 (f (val (part l p 2)))) p (rw (length-le 2 (f (val (part l p 2)))) (omega arith)) in
    ap length (relength-suc f count p l) ∙ length-relength f count (p + 4) m (omega arith) ∙ e

-- the heads around n bytes become those around m
module _ (f : ℕ → ℕ) (n m : ℕ) (changes : (e : ℕ) → f (n + e) ≡ m + e) where
  pub relength-heads : (kind : ℕ) (es pre post : List ℕ) (p : ℕ) → length pre ≡ p → Lengths es n
      → relength f (length es) p (pre ++ (heads_around kind es n ++ post)) ≡ pre ++ (heads_around kind es m ++ post)
  unfolding heads_around
  relength-heads kind [] pre post p hp h = relength-zero f p (pre ++ post)
  relength-heads kind (e ∷ es) pre post p hp h =
      let a : List ℕ = record_head kind (n + e) in
      let b : List ℕ = record_head kind (m + e) in
      let q : List ℕ = heads_around kind es n ++ post in
      let l : List ℕ = pre ++ (a ++ q) in
      let v : val (part l p 2) ≡ n + e = length_at kind (n + e) q (record { pre = pre; post = []; is = rw (append-nil (a ++ q)); len = hp }) h.0 in
      let s : put l p (le 2 (f (val (part l p 2)))) ≡ (pre ++ b) ++ q = rw (v, changes e) (put-length l pre q p kind (n + e) (m + e) refl hp ∙ sym (append_assoc pre b q)) in
      rw (append_assoc a (heads_around kind es n) post, append_assoc b (heads_around kind es m) post)
      (relength-suc f (length es) p l
      ∙ ap (relength f (length es) (p + 4)) s
      ∙ relength-heads kind es (pre ++ b) post (p + 4) (rw (length-append pre b, length-record_head kind (m + e)) (ap (λ (y : ℕ). y + 4) hp)) h.1
      ∙ append_assoc pre b (heads_around kind es m ++ post))
