-- EDITS OF THE WORDS OF A STATE: of one word, and of an entry that is put behind the others or taken away.
use Prim.Native.Nat.{◌*◌, ◌+◌, ◌-◌, ◌<◌, suc, ℕ}
use mathlib.Core.Path.{ap, refl, sym, ◌∙◌, ◌≡◌}
use mathlib.Core.List.{◌++◌, List, [], ◌∷◌, append_assoc}
use lib.ListN.{length, length-append, replicate, replicate-append-replicate, set}
use lib.Seq.{set-append_left, set-append_seam}
use native.Mathlib.Nat.{suc-add, zero-add}
use native.Mathlib.Omega.{arith}
use Rattle.counting.specs.Held.{Held, Numbers}
use Rattle.counting.specs.StateWords.{held_words, packed}

-- Numbers.
abbrev pub num : ℕ → ℕ → ℕ → List Held → Numbers
num p w v hs = record { place = p; waits = w; sum = v; held = hs }

-- The six words of an entry.
abbrev pub six : Held → List ℕ
six h = h.what ∷ h.at ∷ h.top ∷ h.reached ∷ h.running ∷ h.progress ∷ []

-- THE FIRST WORDS

pub edit-place : (p w v : ℕ) (hs : List Held) (q : ℕ) → set (packed (num p w v hs)) 0 q ≡ packed (num q w v hs)
unfolding packed
edit-place p w v hs q = refl

-- ONE WORD OF AN ENTRY

pub set_append_right : (xs ys : List ℕ) (k v : ℕ) → set (xs ++ ys) (length xs + k) v ≡ xs ++ set ys k v
set_append_right [] ys k v = ap (λ (n : ℕ). set ys n v) (zero-add k)
set_append_right (x ∷ xs) ys k v = ap (λ (n : ℕ). set (x ∷ (xs ++ ys)) n v) (suc-add (length xs) k) ∙ ap (λ (l : List ℕ). x ∷ l) (set_append_right xs ys k v)

pub held_words-append : (hs ts : List Held) → held_words (hs ++ ts) ≡ held_words hs ++ held_words ts
unfolding held_words
held_words-append [] ts = refl
held_words-append (h ∷ hs) ts = ap (λ (l : List ℕ). six h ++ l) (held_words-append hs ts)

length-words : (hs : List Held) → length (held_words hs) ≡ 6 * length hs
unfolding held_words
length-words [] = refl
length-words (h ∷ hs) = omega (arith, length-words hs)

-- The words before those of the entry behind hs.
abbrev front : ℕ → ℕ → ℕ → List Held → List ℕ
front p w v hs = p ∷ w ∷ v ∷ held_words hs

-- The zeros behind n entries.
abbrev zeros : ℕ → List ℕ
zeros n = replicate (6 * (31 - n)) 0

packed-at : (p w v : ℕ) (hs ts : List Held) (h : Held)
    → packed (num p w v (hs ++ (h ∷ ts))) ≡ front p w v hs ++ (six h ++ (held_words ts ++ zeros (length (hs ++ (h ∷ ts)))))
unfolding packed
packed-at p w v hs ts h =
    let n = length (hs ++ (h ∷ ts)) in
    ap (λ (l : List ℕ). p ∷ w ∷ v ∷ (l ++ zeros n)) (held_words-append hs (h ∷ ts))
    ∙ ap (λ (l : List ℕ). p ∷ w ∷ v ∷ l) (append_assoc (held_words hs) (held_words (h ∷ ts)) (zeros n))
    ∙ (unfold held_words in refl)

length_front : (p w v : ℕ) (hs : List Held) → length (front p w v hs) ≡ 3 + 6 * length hs
length_front p w v hs = omega (arith, length-words hs)

same_length : (hs ts : List Held) (h g : Held) → length (hs ++ (h ∷ ts)) ≡ length (hs ++ (g ∷ ts))
same_length hs ts h g = length-append hs (h ∷ ts) ∙ sym (length-append hs (g ∷ ts))

set-in : (xs us ys : List ℕ) (i k v : ℕ) → length xs ≡ i → k < length us → set (xs ++ (us ++ ys)) (i + k) v ≡ xs ++ (set us k v ++ ys)
set-in xs us ys i k v e l =
    ap (λ (n : ℕ). set (xs ++ (us ++ ys)) (n + k) v) (sym e)
    ∙ set_append_right xs (us ++ ys) k v
    ∙ ap (λ (z : List ℕ). xs ++ z) (set-append_left us ys k v l)

-- the word k of the entry behind hs, where that makes of h the entry g
pub edit-entry : (p w v : ℕ) (hs ts : List Held) (h g : Held) (k x : ℕ) → k < 6 → set (six h) k x ≡ six g
    → set (packed (num p w v (hs ++ (h ∷ ts)))) (3 + 6 * length hs + k) x ≡ packed (num p w v (hs ++ (g ∷ ts)))
edit-entry p w v hs ts h g k x l e =
    let n = length (hs ++ (h ∷ ts)) in
    ap (λ (z : List ℕ). set z (3 + 6 * length hs + k) x) (packed-at p w v hs ts h)
    ∙ set-in (front p w v hs) (six h) (held_words ts ++ zeros n) (3 + 6 * length hs) k x (length_front p w v hs) l
    ∙ ap (λ (z : List ℕ). front p w v hs ++ (z ++ (held_words ts ++ zeros n))) e
    ∙ ap (λ (m : ℕ). front p w v hs ++ (six g ++ (held_words ts ++ zeros m))) (same_length hs ts h g)
    ∙ sym (packed-at p w v hs ts g)

-- AN ENTRY PUT BEHIND THE OTHERS, OR TAKEN AWAY

-- The words l with the entry h from word i on.
unfoldable pub put_entry : List ℕ → ℕ → Held → List ℕ
put_entry l i h = set (set (set (set (set (set l i h.what) (i + 1) h.at) (i + 2) h.top) (i + 3) h.reached) (i + 4) h.running) (i + 5) h.progress

put-at : (xs ys : List ℕ) (g h : Held) (i : ℕ) → length xs ≡ i → put_entry (xs ++ (six g ++ ys)) i h ≡ xs ++ (six h ++ ys)
unfolding put_entry
put-at xs ys g h i e = rw (← e) (simp (set-append_seam, set_append_right))

-- The entry of zeros.
abbrev pub no_entry : Held
no_entry = record { what = 0; at = 0; top = 0; reached = 0; running = 0; progress = 0 }

zeros-suc : (n : ℕ) → n < 31 → zeros n ≡ six no_entry ++ zeros (suc n)
zeros-suc n l = ap (λ (m : ℕ). replicate m 0) {x = 6 * (31 - n)} {y = 6 + 6 * (31 - suc n)} (omega arith) ∙ sym (replicate-append-replicate 6 (6 * (31 - suc n)) 0)

packed-free : (p w v : ℕ) (hs : List Held) → length hs < 31 → packed (num p w v hs) ≡ front p w v hs ++ (six no_entry ++ zeros (suc (length hs)))
unfolding packed
packed-free p w v hs l = ap (λ (z : List ℕ). front p w v hs ++ z) (zeros-suc (length hs) l)

packed-last : (p w v : ℕ) (hs : List Held) (h : Held) → packed (num p w v (hs ++ (h ∷ []))) ≡ front p w v hs ++ (six h ++ zeros (suc (length hs)))
packed-last p w v hs h =
    packed-at p w v hs [] h
    ∙ ap (λ (m : ℕ). front p w v hs ++ (six h ++ (held_words [] ++ zeros m))) {x = length (hs ++ (h ∷ []))} {y = suc (length hs)} (omega (arith, length-append hs (h ∷ [])))
    ∙ (unfold held_words in refl)

-- an entry more: its six words over zeros
pub edit-push : (p w v : ℕ) (hs : List Held) (h : Held) → length hs < 31
    → put_entry (packed (num p w v hs)) (3 + 6 * length hs) h ≡ packed (num p w v (hs ++ (h ∷ [])))
edit-push p w v hs h l =
    let n = length hs in
    ap (λ (z : List ℕ). put_entry z (3 + 6 * n) h) (packed-free p w v hs l)
    ∙ put-at (front p w v hs) (zeros (suc n)) no_entry h (3 + 6 * n) (length_front p w v hs)
    ∙ sym (packed-last p w v hs h)

-- an entry less: zeros over its six words
pub edit-pop : (p w v : ℕ) (hs : List Held) (h : Held) → length hs < 31
    → put_entry (packed (num p w v (hs ++ (h ∷ [])))) (3 + 6 * length hs) no_entry ≡ packed (num p w v hs)
edit-pop p w v hs h l =
    let n = length hs in
    ap (λ (z : List ℕ). put_entry z (3 + 6 * n) no_entry) (packed-last p w v hs h)
    ∙ put-at (front p w v hs) (zeros (suc n)) h no_entry (3 + 6 * n) (length_front p w v hs)
    ∙ sym (packed-free p w v hs l)
