-- Laws of one record: its length, and that a record in front is found and is all that was found.
use Prim.Native.Nat.{◌+◌, ◌-◌, ◌<◌, ℕ, ◌≤◌}
use mathlib.Core.Path.{◌≡◌, ap, ap₂, refl, subst, sym, ◌∙◌}
use mathlib.Core.Bool.{◌&&◌, Bool, false, true}
use mathlib.Core.List.{◌++◌, List, [], ◌∷◌}
use borrow.Author.Tests.{le-leb, leb-true}
use lib.Dec.{leb}
use lib.ListN.{drop, length, length-append, length-drop, take, take-append-drop}
use lib.Seq.{drop_at, length-take-le, take_at}
use native.Mathlib.Omega.{arith}
use Rattle.buffer.specs.LittleEndian.{Bytes, le, val}
use Rattle.buffer.proofs.LittleEndianLaws.{bytes-append, bytes_le, bytes_left, bytes-right, le_val, length-le, val-le, val-lt}
use Rattle.rules.proofs.Tests.{and_both}
use Rattle.record.specs.Record.{bad, cut, encode_record, end, part, split}

pub length-encode_record : (k : ℕ) (b : List ℕ) → length (encode_record k b) ≡ 4 + length b
unfolding encode_record
length-encode_record k b = simp (length-append, length-le) (omega arith)

pub bytes-encode_record : (k : ℕ) (b : List ℕ) → Bytes b → Bytes (encode_record k b)
unfolding encode_record
bytes-encode_record k b h = bytes-append (le 2 (4 + length b)) (le 2 k ++ b) (bytes_le 2 (4 + length b)) (bytes-append (le 2 k) b (bytes_le 2 k) h)

-- What is known where the split finds a record.
pub record Parted (bs : List ℕ) (k : ℕ) (b r : List ℕ) : Type 0 where
  pub whole : bs ≡ encode_record k b ++ r
  pub small : 4 + length b < 65536
  pub kind : k < 65536
  pub inside : Bytes b
  pub after : Bytes r

-- the bytes that a found record was read from
pub record Taken (bs : List ℕ) (k : ℕ) (b r : List ℕ) : Type 0 where
  pub a₀ : ℕ
  pub a₁ : ℕ
  pub a₂ : ℕ
  pub a₃ : ℕ
  pub xs : List ℕ
  pub all : bs ≡ a₀ ∷ a₁ ∷ a₂ ∷ a₃ ∷ xs
  pub head : 4 ≤ val (a₀ ∷ a₁ ∷ [])
  pub fits : val (a₀ ∷ a₁ ∷ []) - 4 ≤ length xs
  pub is-kind : k ≡ val (a₂ ∷ a₃ ∷ [])
  pub is_body : b ≡ take (val (a₀ ∷ a₁ ∷ []) - 4) xs
  pub is-rest : r ≡ drop (val (a₀ ∷ a₁ ∷ []) - 4) xs

bad-part : (k : ℕ) (b r : List ℕ) → bad ≡ part k b r → ⊥
bad-part k b r e = let z : ◌≡◌ {A = ℕ} 0 1 = cc in omega arith

end-part : (k : ℕ) (b r : List ℕ) → end ≡ part k b r → ⊥
end-part k b r e = let z : ◌≡◌ {A = ℕ} 0 1 = cc in omega arith

cut-part : (t : Bool) (k n : ℕ) (xs : List ℕ) (m : ℕ) (b r : List ℕ) → cut t k n xs ≡ part m b r → (t ≡ true) × (m ≡ k) × (b ≡ take n xs) × (r ≡ drop n xs)
unfolding cut
cut-part true k n xs m b r e = (refl, cc, cc, cc)
cut-part false k n xs m b r e = absurd (bad-part m b r e)

pub split-taken : (bs : List ℕ) (k : ℕ) (b r : List ℕ) → split bs ≡ part k b r → Taken bs k b r
unfolding split
split-taken [] k b r e = absurd (end-part k b r e)
split-taken (a₀ ∷ []) k b r e = absurd (bad-part k b r e)
split-taken (a₀ ∷ a₁ ∷ []) k b r e = absurd (bad-part k b r e)
split-taken (a₀ ∷ a₁ ∷ a₂ ∷ []) k b r e = absurd (bad-part k b r e)
split-taken (a₀ ∷ a₁ ∷ a₂ ∷ a₃ ∷ xs) k b r e =
    let len : ℕ = val (a₀ ∷ a₁ ∷ []) in
    let c = cut-part (leb 4 len && leb (len - 4) (length xs)) (val (a₂ ∷ a₃ ∷ [])) (len - 4) xs k b r e in
    let t = and_both (leb 4 len) (leb (len - 4) (length xs)) c.0 in
    record {
      a₀ = a₀;
      a₁ = a₁;
      a₂ = a₂;
      a₃ = a₃;
      xs = xs;
      all = refl;
      head = leb-true 4 len t.0;
      fits = leb-true (len - 4) (length xs) t.1;
      is-kind = c.1;
      is_body = c.2;
      is-rest = c.3;
    }

-- the first record and what follows it make up the whole length
pub split-length : (bs : List ℕ) (k : ℕ) (b r : List ℕ) → split bs ≡ part k b r → 4 + length b + length r ≡ length bs
split-length bs k b r e =
    let t = split-taken bs k b r e in
    let n : ℕ = val (t.a₀ ∷ t.a₁ ∷ []) - 4 in
    let lb : length b ≡ n = ap length t.is_body ∙ length-take-le n t.xs t.fits in
    let lr : length r ≡ length t.xs - n = ap length t.is-rest ∙ length-drop n t.xs in
    let la : length bs ≡ length (t.a₀ ∷ t.a₁ ∷ t.a₂ ∷ t.a₃ ∷ t.xs) = ap length t.all in
    omega arith

pub split-end : (bs : List ℕ) → split bs ≡ end → bs ≡ []
unfolding split cut
split-end [] e = refl
split-end (a ∷ []) e = cc
split-end (a ∷ b ∷ []) e = cc
split-end (a ∷ b ∷ c ∷ []) e = cc
split-end (a ∷ b ∷ c ∷ d ∷ xs) e = go (leb 4 (val (a ∷ b ∷ [])) && leb (val (a ∷ b ∷ []) - 4) (length xs)) e
  where
    go : (t : Bool) → cut t (val (c ∷ d ∷ [])) (val (a ∷ b ∷ []) - 4) xs ≡ end → a ∷ b ∷ c ∷ d ∷ xs ≡ []
    go true f = cc
    go false f = cc

pub split-parted : (bs : List ℕ) (k : ℕ) (b r : List ℕ) → Bytes bs → split bs ≡ part k b r → Parted bs k b r
unfolding encode_record
split-parted bs k b r h e =
    let t = split-taken bs k b r e in
    let n : ℕ = val (t.a₀ ∷ t.a₁ ∷ []) - 4 in
    let lb : length b ≡ n = ap length t.is_body ∙ length-take-le n t.xs t.fits in
    let hs : Bytes (t.a₀ ∷ t.a₁ ∷ t.a₂ ∷ t.a₃ ∷ t.xs) = subst Bytes t.all h in
    let hh : Bytes (t.a₀ ∷ t.a₁ ∷ []) = (hs.0, (hs.1.0, tt)) in
    let hk : Bytes (t.a₂ ∷ t.a₃ ∷ []) = (hs.1.1.0, (hs.1.1.1.0, tt)) in
    let br : b ++ r ≡ t.xs = ap₂ ◌++◌ t.is_body t.is-rest ∙ take-append-drop n t.xs in
    let hx : Bytes (b ++ r) = subst Bytes (sym br) hs.1.1.1.1 in
    let el : le 2 (4 + length b) ≡ t.a₀ ∷ t.a₁ ∷ [] = ap (le 2) (omega (arith, t.head)) ∙ le_val (t.a₀ ∷ t.a₁ ∷ []) hh in
    let ek : le 2 k ≡ t.a₂ ∷ t.a₃ ∷ [] = ap (le 2) t.is-kind ∙ le_val (t.a₂ ∷ t.a₃ ∷ []) hk in
    record {
      whole = rw (el, ek) (t.all ∙ ap (λ (l : List ℕ). t.a₀ ∷ t.a₁ ∷ t.a₂ ∷ t.a₃ ∷ l) (sym br));
      small = omega (arith, val-lt (t.a₀ ∷ t.a₁ ∷ []) hh, t.head);
      kind = omega (arith, val-lt (t.a₂ ∷ t.a₃ ∷ []) hk, t.is-kind);
      inside = bytes_left b r hx;
      after = bytes-right b r hx;
    }

-- a record in front is found
pub split-encode_record : (k : ℕ) (b r : List ℕ) → k < 65536 → 4 + length b < 65536 → split (encode_record k b ++ r) ≡ part k b r
unfolding split cut encode_record le
split-encode_record k b r hk hb =
    let el : val (le 2 (4 + length b)) ≡ 4 + length b = val-le 2 (4 + length b) hb in
    let ek : val (le 2 k) ≡ k = val-le 2 k hk in
    let e4 : 4 + length b - 4 ≡ length b = omega arith in
    let t₁ : leb 4 (4 + length b) ≡ true = le-leb 4 (4 + length b) (omega arith) in
    let t₂ : leb (length b) (length (b ++ r)) ≡ true = le-leb (length b) (length (b ++ r)) (simp length-append (omega arith)) in
    rw (el, ek, e4, t₁, t₂, take_at b r (length b) refl, drop_at b r (length b) refl) refl
