-- Laws of the words as they are handed out, entry by entry.
use Prim.Native.Nat.{◌*◌, ◌+◌, ◌-◌, ◌<◌, ◌≤◌, suc, zero, ℕ}
use mathlib.Core.Path.{ap, ap₂, refl, sym, ◌∙◌, ◌≡◌}
use mathlib.Core.Bool.{Bool}
use mathlib.Core.List.{◌++◌, List, [], ◌∷◌, append_assoc, map}
use borrow.Author.Tests.{eq-eqb, ne_eqb}
use lib.Dec.{eqb}
use lib.ListN.{drop, length, length-append, replicate, replicate-append-replicate}
use lib.Seq.{set-append_seam}
use native.Mathlib.Omega.{arith}
use borrow.Rule.Slice.PartMut.{put_mid}
use Rattle.std.proofs.lemmas.List.{append-nil, drop_all, drop_at, take_at}
use Rattle.counting.specs.Held.{Held, canonical, canonical_held, mark, waiting_sum}
use Rattle.counting.specs.StateWords.{held_at, held_from, held_words, packed, unless_none, unpacked}
use Rattle.counting.proofs.StateWordsLaws.{held-at, what-at}
use Rattle.counting.proofs.WordEdits.{set_append_right, six}
use Rattle.canonical.proofs.HeldLaws.{from-few}
use Rattle.canonical.specs.Canonical.{head_by, head_canonical, held_of}
use Rattle.state_words.specs.declared.EntryWords.{EntryWords}
use Rattle.state_words.specs.Entry.{entry_put}

-- ON A LIST TAKEN APART AT THE ENTRY

-- Six zeros.
abbrev none : List ℕ
none = 0 ∷ 0 ∷ 0 ∷ 0 ∷ 0 ∷ 0 ∷ []

put-at : (xs ys : List ℕ) (h g : Held) (i : ℕ) → length xs ≡ i → entry_put (xs ++ (six h ++ ys)) i g.what g.at g.top g.reached g.running g.progress ≡ xs ++ (six g ++ ys)
unfolding entry_put
put-at xs ys h g i e = rw (← e) (simp (set-append_seam, set_append_right))

-- ALL THE ROWS, one after the other

-- m rows of six words, of which the first n are held.
unfoldable pub rows : ℕ → ℕ → List ℕ → List ℕ
rows n zero l = l
rows zero (suc m) l = none ++ rows zero m (drop 6 l)
rows (suc n) (suc m) l = six (canonical_held (held_at l 0)) ++ rows n m (drop 6 l)

rows-held : (n m : ℕ) (h : Held) (t : List ℕ) → rows (suc n) (suc m) (six h ++ t) ≡ six (canonical_held h) ++ rows n m t
unfolding rows held_at
rows-held n m h t = refl

rows_none : (m : ℕ) (h : Held) (t : List ℕ) → rows 0 (suc m) (six h ++ t) ≡ none ++ rows 0 m t
unfolding rows
rows_none m h t = refl

-- the first row of some
row-cases : (l : List ℕ) (m : ℕ) → length l ≡ 6 * suc m → {A : Type 0} → ((h : Held) (t : List ℕ) → l ≡ six h ++ t → length t ≡ 6 * m → A) → A
row-cases (a ∷ b ∷ c ∷ d ∷ e ∷ f ∷ t) m q k = k (record { what = a; at = b; top = c; reached = d; running = e; progress = f }) t refl (omega (arith, q))
row-cases [] m q k = absurd (omega (arith, q))
row-cases (a ∷ []) m q k = absurd (omega (arith, q))
row-cases (a ∷ b ∷ []) m q k = absurd (omega (arith, q))
row-cases (a ∷ b ∷ c ∷ []) m q k = absurd (omega (arith, q))
row-cases (a ∷ b ∷ c ∷ d ∷ []) m q k = absurd (omega (arith, q))
row-cases (a ∷ b ∷ c ∷ d ∷ e ∷ []) m q k = absurd (omega (arith, q))

-- THE PASS: j rows are done, and the words come to T

pub record Passed (T : List ℕ) (n j : ℕ) (words : List ℕ) : Type 0 where
  pub few : n ≤ 31
  pub front : List ℕ
  pub back : List ℕ
  pub is : words ≡ front ++ back
  pub long : length front ≡ 3 + 6 * j
  pub rest : length back ≡ 6 * (31 - j)
  pub same : front ++ rows (n - j) (31 - j) back ≡ T

pub passed_on : {T : List ℕ} {n j : ℕ} {words : List ℕ} → Passed T n j words → j < n → (e : EntryWords) → held_of e ≡ canonical_held (held_at words (3 + 6 * j))
    → Passed T n (j + 1) (entry_put words (3 + 6 * j) e.what e.at e.top e.reached e.running e.progress)
passed_on {T} {n} {j} {words} w l e r = row-cases w.back (30 - j) (w.rest ∙ (omega (arith, w.few))) (λ h t f g.
    let k : words ≡ w.front ++ (six h ++ t) = w.is ∙ ap (λ (z : List ℕ). w.front ++ z) f in
    let q : held_of e ≡ canonical_held h = r ∙ ap (λ (z : List ℕ). canonical_held (held_at z (3 + 6 * j))) k ∙ ap canonical_held (held-at h w.front t (3 + 6 * j) w.long) in
    record {
      few = w.few;
      front = w.front ++ six (canonical_held h);
      back = t;
      is = ap (λ (z : List ℕ). entry_put z (3 + 6 * j) e.what e.at e.top e.reached e.running e.progress) k ∙ put-at w.front t h (held_of e) (3 + 6 * j) w.long
          ∙ ap (λ (z : Held). w.front ++ (six z ++ t)) q ∙ sym (append_assoc w.front (six (canonical_held h)) t);
      long = length-append w.front (six (canonical_held h)) ∙ (omega (arith, w.long));
      rest = g ∙ (omega arith);
      same = append_assoc w.front (six (canonical_held h)) (rows (n - (j + 1)) (31 - (j + 1)) t)
          ∙ ap (λ (m : ℕ). w.front ++ (six (canonical_held h) ++ rows (n - (j + 1)) m t)) {x = 31 - (j + 1)} {y = 30 - j} (omega arith)
          ∙ ap (λ (z : List ℕ). w.front ++ z) (sym (ap (λ (m : ℕ). rows m (suc (30 - j)) (six h ++ t)) {x = n - j} {y = suc (n - (j + 1))} (omega arith) ∙ rows-held (n - (j + 1)) (30 - j) h t))
          ∙ ap (λ (z : List ℕ). w.front ++ rows (n - j) (suc (30 - j)) z) (sym f)
          ∙ ap (λ (m : ℕ). w.front ++ rows (n - j) m w.back) {x = suc (30 - j)} {y = 31 - j} (omega (arith, w.few))
          ∙ w.same;
    })

-- THE START: all the rows are the words of the entries held, and zeros

rows-zero : (m : ℕ) (l : List ℕ) → length l ≡ 6 * m → rows 0 m l ≡ replicate (6 * m) 0
rows-zero zero [] q = unfold rows in refl
rows-zero zero (a ∷ l) q = absurd (omega (arith, q))
rows-zero (suc m) l q =
    row-cases l m q λ h t e g.
    ap (rows 0 (suc m)) e ∙ rows_none m h t ∙ ap (λ (z : List ℕ). none ++ z) (rows-zero m t g)
    ∙ replicate-append-replicate 6 (6 * m) 0 ∙ ap (λ (k : ℕ). replicate k 0) {x = 6 + 6 * m} {y = 6 * suc m} (omega arith)

-- The words of entries as they are handed out, and zeros for what is left of m.
abbrev handed : ℕ → List Held → List ℕ
handed m hs = held_words (map canonical_held hs) ++ replicate (6 * (m - length hs)) 0

handed-none : (m : ℕ) → replicate (6 * m) 0 ≡ handed m []
unfolding held_words
handed-none m = ap (λ (k : ℕ). replicate k 0) {x = 6 * m} {y = 6 * (m - 0)} (omega arith)

handed-cons : (m : ℕ) (h : Held) (hs : List Held) → six (canonical_held h) ++ handed m hs ≡ handed (suc m) (h ∷ hs)
unfolding held_words
handed-cons m h hs =
    ap (λ (k : ℕ). six (canonical_held h) ++ (held_words (map canonical_held hs) ++ replicate k 0)) {x = 6 * (m - length hs)} {y = 6 * (suc m - suc (length hs))} (omega arith)

-- the entries behind the words xs, in their first row and behind it
held_more : (xs : List ℕ) (h : Held) (t : List ℕ) (m : ℕ)
    → held_from (xs ++ (six h ++ t)) (length xs) (suc m) ≡ unless_none h.what h (held_from ((xs ++ six h) ++ t) (length (xs ++ six h)) m)
unfolding held_from
held_more xs h t m =
    ap₂ (λ (w : ℕ) (x : Held). unless_none w x (held_from (xs ++ (six h ++ t)) (length xs + 6) m)) (what-at h xs t (length xs) refl) (held-at h xs t (length xs) refl)
    ∙ ap₂ (λ (x : List ℕ) (y : ℕ). unless_none h.what h (held_from x y m)) (sym (append_assoc xs (six h) t)) (sym (length-append xs (six h)))

rows_are : (m : ℕ) (xs l : List ℕ) → length l ≡ 6 * m → rows (length (held_from (xs ++ l) (length xs) m)) m l ≡ handed m (held_from (xs ++ l) (length xs) m)
rows_are zero xs [] q = unfold rows held_from held_words in refl
rows_are zero xs (a ∷ l) q = absurd (omega (arith, q))
rows_are (suc m) xs l q =
    row-cases l m q λ h t e g.
    let hs = held_from ((xs ++ six h) ++ t) (length (xs ++ six h)) m in
    let k : held_from (xs ++ l) (length xs) (suc m) ≡ unless_none h.what h hs = ap (λ (z : List ℕ). held_from (xs ++ z) (length xs) (suc m)) e ∙ held_more xs h t m in
    ap₂ (λ (z : List Held) (y : List ℕ). rows (length z) (suc m) y) k e ∙ by-what h.what h t hs g (rows_are m (xs ++ six h) t g) ∙ ap (handed (suc m)) (sym k)
  where
    by-what : (w : ℕ) (h : Held) (t : List ℕ) (hs : List Held) → length t ≡ 6 * m → rows (length hs) m t ≡ handed m hs
        → rows (length (unless_none w h hs)) (suc m) (six h ++ t) ≡ handed (suc m) (unless_none w h hs)
    by-what zero h t hs g i = unfold unless_none in (rows-zero (suc m) (six h ++ t) (omega (arith, g)) ∙ handed-none (suc m))
    by-what (suc w) h t hs g i = unfold unless_none in (rows-held (length hs) m h t ∙ ap (λ (z : List ℕ). six (canonical_held h) ++ z) i ∙ handed-cons m h hs)

length-map-held : (hs : List Held) → length (map canonical_held hs) ≡ length hs
length-map-held [] = refl
length-map-held (h ∷ hs) = ap suc (length-map-held hs)

heads : (a b c : ℕ) (t : List ℕ) → head_canonical (a ∷ b ∷ c ∷ t) ≡ a ∷ mark b ∷ waiting_sum b c ∷ t
unfolding head_canonical
heads a b c t = by-mark b
  where
    by-mark : (b : ℕ) → head_by (eqb b 0) (a ∷ b ∷ c ∷ t) ≡ a ∷ mark b ∷ waiting_sum b c ∷ t
    by-mark zero = ap (λ (x : Bool). head_by x (a ∷ 0 ∷ c ∷ t)) (eq-eqb 0 0 refl) ∙ (unfold head_by mark waiting_sum in refl)
    by-mark (suc b) = ap (λ (x : Bool). head_by x (a ∷ suc b ∷ c ∷ t)) (ne_eqb (suc b) 0 (λ z. omega arith)) ∙ (unfold head_by mark waiting_sum in refl)

pub passed_start : (ws mid : List ℕ) → length ws ≡ 189 → mid ≡ head_canonical ws → (n : ℕ) → n ≡ length (held_from ws 3 31) → Passed (packed (canonical (unpacked ws))) n 0 mid
passed_start ws mid e f n c = by-words ws e f c
  where
    all : (a b c : ℕ) (t : List ℕ) → (a ∷ mark b ∷ waiting_sum b c ∷ []) ++ handed 31 (held_from (a ∷ b ∷ c ∷ t) 3 31) ≡ packed (canonical (unpacked (a ∷ b ∷ c ∷ t)))
    all a b c t =
        let hs = held_from (a ∷ b ∷ c ∷ t) 3 31 in
        ap (λ (k : ℕ). (a ∷ mark b ∷ waiting_sum b c ∷ []) ++ (held_words (map canonical_held hs) ++ replicate (6 * (31 - k)) 0)) (sym (length-map-held hs))
        ∙ (unfold packed canonical unpacked in refl)

    by-words : (ws : List ℕ) → length ws ≡ 189 → mid ≡ head_canonical ws → n ≡ length (held_from ws 3 31) → Passed (packed (canonical (unpacked ws))) n 0 mid
    by-words (a ∷ b ∷ x ∷ t) e f c =
        record {
          few = omega (arith, c, from-few (a ∷ b ∷ x ∷ t) 3 31);
          front = a ∷ mark b ∷ waiting_sum b x ∷ [];
          back = t;
          is = f ∙ heads a b x t;
          long = refl;
          rest = omega (arith, e);
          same = ap (λ (m : ℕ). (a ∷ mark b ∷ waiting_sum b x ∷ []) ++ rows m 31 t) {x = n - 0} {y = length (held_from (a ∷ b ∷ x ∷ t) 3 31)} (omega (arith, c))
              ∙ ap (λ (z : List ℕ). (a ∷ mark b ∷ waiting_sum b x ∷ []) ++ z) (rows_are 31 (a ∷ b ∷ x ∷ []) t (omega (arith, e)))
              ∙ all a b x t;
        }
    by-words [] e f c = absurd (omega (arith, e))
    by-words (a ∷ []) e f c = absurd (omega (arith, e))
    by-words (a ∷ b ∷ []) e f c = absurd (omega (arith, e))

-- THE END: zeros behind the entries that are held

pub passed-end : {T : List ℕ} {n j : ℕ} {words : List ℕ} → Passed T n j words → n ≡ j → (zs : List ℕ) → zs ≡ replicate (189 - (3 + 6 * n)) 0 → put_mid (3 + 6 * n) (189 - (3 + 6 * n)) words zs ≡ T
passed-end {T} {n} {j} {words} w s zs e =
    let k = 189 - (3 + 6 * n) in
    let l : length w.front ≡ 3 + 6 * n = omega (arith, w.long) in
    ap (λ (z : List ℕ). put_mid (3 + 6 * n) k z zs) w.is
    ∙ ap₂ (λ (y z : List ℕ). y ++ (zs ++ z)) (take_at w.front w.back (3 + 6 * n) l) (ap (drop k) (drop_at w.front w.back (3 + 6 * n) l) ∙ drop_all k w.back (omega (arith, w.rest, w.few)))
    ∙ ap (λ (z : List ℕ). w.front ++ z)
    (append-nil zs ∙ e ∙ ap (λ (z : ℕ). replicate z 0) {x = k} {y = 6 * (31 - j)} (omega (arith, w.few)) ∙ sym (rows-zero (31 - j) w.back w.rest)
    ∙ ap (λ (z : ℕ). rows z (31 - j) w.back) {x = 0} {y = n - j} (omega arith))
    ∙ w.same
