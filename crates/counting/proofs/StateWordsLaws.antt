-- THE 189 WORDS OF A STATE: the two are inverse, on states of the program and on words as they are handed out.
use Prim.Native.Nat.{◌*◌, ◌+◌, ◌-◌, ◌≤◌, suc, zero, ℕ}
use mathlib.Core.Path.{ap, refl, sym, ◌∙◌, ◌≡◌}
use mathlib.Core.List.{◌++◌, List, [], ◌∷◌, append_assoc}
use lib.ListN.{get_or, length, length-append, length-replicate, replicate}
use lib.Seq.{get_or-append-add, get_or-append_seam}
use native.Mathlib.Omega.{arith}
use Rattle.record.specs.Program.{block_size}
use Rattle.rules.specs.Syntax.{Block}
use Rattle.counting.specs.Counting.{State, at_zero, here, in_block, in_body, start, storing, summed, unrolling}
use Rattle.counting.specs.Depth.{nesting, open_count}
use Rattle.counting.specs.Held.{Held, Numbers, around, block_numbers, left_at_block, left_at_loop, canonical, held_block, held_loop, numbers, shut_at, turn_numbers}
use Rattle.counting.specs.Place.{body_at, inside_at, place_of}
use Rattle.counting.specs.ReadState.{read_numbers, right}
use Rattle.counting.specs.StateOf.{StateOf}
use Rattle.counting.specs.StateWords.{decode_state, encode_state, held_at, held_from, held_words, packed, unless_none, unpacked}
use Rattle.counting.proofs.DepthLaws.{open-31}
use Rattle.counting.proofs.ReadStateLaws.{read-numbers}
use Rattle.counting.proofs.StateOfLaws.{start_of}
use Rattle.counting.proofs.CanonicalLaws.{numbers-read, read_of}

-- WORDS AND NUMBERS

length-held_words : (hs : List Held) → length (held_words hs) ≡ 6 * length hs
unfolding held_words
length-held_words [] = refl
length-held_words (h ∷ hs) = omega (arith, length-held_words hs)

pub length-packed : (w : Numbers) → length w.held ≤ 31 → length (packed w) ≡ 189
unfolding packed
length-packed w l = simp (length-append, length-replicate, length-held_words) (omega arith)

-- The six words of an entry.
abbrev pub six : Held → List ℕ
six h = h.what ∷ h.at ∷ h.top ∷ h.reached ∷ h.running ∷ h.progress ∷ []

-- Each entry is held open as something.
abbrev pub Opens : List Held → Type 0
Opens [] = Unit {0}
Opens (h ∷ hs) = (1 ≤ h.what) × Opens hs

-- the entry, and then the entries, that stand behind the words xs
pub held-at : (h : Held) (xs ys : List ℕ) (i : ℕ) → length xs ≡ i → held_at (xs ++ (six h ++ ys)) i ≡ h
unfolding held_at
held-at h xs ys i e =
    let zs : List ℕ = six h ++ ys in
    rw (← e)
    (rw (
      get_or-append_seam xs h.what (h.at ∷ h.top ∷ h.reached ∷ h.running ∷ h.progress ∷ ys) 0,
      get_or-append-add xs zs 1 0,
      get_or-append-add xs zs 2 0,
      get_or-append-add xs zs 3 0,
      get_or-append-add xs zs 4 0,
      get_or-append-add xs zs 5 0,
    ) refl)

pub what-at : (h : Held) (xs ys : List ℕ) (i : ℕ) → length xs ≡ i → get_or (xs ++ (six h ++ ys)) i 0 ≡ h.what
what-at h xs ys i e =
    ap (λ (j : ℕ). get_or (xs ++ (six h ++ ys)) j 0) (sym e) ∙ get_or-append_seam xs h.what (h.at ∷ h.top ∷ h.reached ∷ h.running ∷ h.progress ∷ ys) 0

zero-behind : (xs : List ℕ) (m i : ℕ) → length xs ≡ i → get_or (xs ++ replicate m 0) i 0 ≡ 0
zero-behind xs m i e =
    ap (λ (j : ℕ). get_or (xs ++ replicate m 0) j 0) {x = i} {y = length xs + 0} (omega arith) ∙ get_or-append-add xs (replicate m 0) 0 0 ∙ first m
  where
    first : (m : ℕ) → ◌≡◌ {A = ℕ} (get_or (replicate m 0) 0 0) 0
    first zero = refl
    first (suc m) = refl

unless-none : (what : ℕ) (h : Held) (hs : List Held) → 1 ≤ what → unless_none what h hs ≡ h ∷ hs
unfolding unless_none
unless-none zero h hs l = absurd (omega arith)
unless-none (suc what) h hs l = refl

-- none, where zeros stand
none_from : (xs : List ℕ) (m i n : ℕ) → length xs ≡ i → held_from (xs ++ replicate m 0) i n ≡ []
unfolding held_from unless_none
none_from xs m i zero e = refl
none_from xs m i (suc n) e = rw (zero-behind xs m i e) refl

pub held-from : (hs : List Held) (xs : List ℕ) (m i n : ℕ) → length xs ≡ i → length hs ≤ n → Opens hs → held_from (xs ++ (held_words hs ++ replicate m 0)) i n ≡ hs
unfolding held_words
held-from [] xs m i n e l o = none_from xs m i n e
held-from (h ∷ hs) xs m i zero e l o = absurd (omega arith)
held-from (h ∷ hs) xs m i (suc n) e l o =
    let more = held-from hs (xs ++ six h) m (i + 6) n (length-append xs (six h) ∙ ap (λ (n : ℕ). n + 6) e) (omega arith) o.1 in
    entry (ap (λ (l : List ℕ). held_from l (i + 6) n) (sym (append_assoc xs (six h) (held_words hs ++ replicate m 0))) ∙ more)
  where
    entry : held_from (xs ++ (six h ++ (held_words hs ++ replicate m 0))) (i + 6) n ≡ hs → held_from (xs ++ (six h ++ (held_words hs ++ replicate m 0))) i (suc n) ≡ h ∷ hs
    entry k = unfold held_from in (
        rw (what-at h xs (held_words hs ++ replicate m 0) i e, held-at h xs (held_words hs ++ replicate m 0) i e, k) (unless-none h.what h hs o.0))

pub unpacked-packed : (w : Numbers) → length w.held ≤ 31 → Opens w.held → unpacked (packed w) ≡ w
unfolding unpacked packed
unpacked-packed w l o =
    ap (λ (hs : List Held). record { place = w.place; waits = w.waits; sum = w.sum; held = hs })
    (held-from w.held (w.place ∷ w.waits ∷ w.sum ∷ []) (6 * (31 - length w.held)) 3 31 refl l o)

-- WORDS AND STATES

-- a state has an entry for all that it holds open
pub length-held : (s : State) (b : Block) (a : ℕ) → length (numbers s b a).held ≡ open_count s
unfolding numbers open_count shut_at block_numbers turn_numbers around
length-held (here r) b a = refl
length-held (summed x e v r) b a = refl
length-held (in_block q s r) b a = ap suc (length-held s q (inside_at (place_of b a (left_at_block q r))))
length-held (unrolling x c d q r) b a = refl
length-held (at_zero x d q r) b a = refl
length-held (storing x c d q r) b a = refl
length-held (in_body x c d q s r) b a = ap suc (length-held s q (body_at (place_of b a (left_at_loop q r))))

-- which it holds open as a block or as a loop
pub opens-held : (s : State) (b : Block) (a : ℕ) → Opens (numbers s b a).held
unfolding numbers shut_at block_numbers turn_numbers around held_block held_loop
opens-held (here r) b a = tt
opens-held (summed x e v r) b a = tt
opens-held (in_block q s r) b a = (omega arith, opens-held s q (inside_at (place_of b a (left_at_block q r))))
opens-held (unrolling x c d q r) b a = (omega arith, tt)
opens-held (at_zero x d q r) b a = (omega arith, tt)
opens-held (storing x c d q r) b a = (omega arith, tt)
opens-held (in_body x c d q s r) b a = (omega arith, opens-held s q (body_at (place_of b a (left_at_loop q r))))

module _ (P : Block) (s : State) where
  -- where at most 31 are open, the words of a state are 189, and those of a state of the program hold that state
  pub length-encode-31 : open_count s ≤ 31 → length (encode_state P s) ≡ 189
  unfolding encode_state
  length-encode-31 l = length-packed (numbers s P 0) (omega (arith, length-held s P 0))

  pub decode-encode-31 : StateOf P 0 s → open_count s ≤ 31 → decode_state P (encode_state P s) ≡ right s
  unfolding decode_state encode_state
  decode-encode-31 h l =
      ap (λ (w : Numbers). read_numbers w P 0) (unpacked-packed (numbers s P 0) (omega (arith, length-held s P 0)) (opens-held s P 0))
      ∙ read-numbers s P 0 h

  -- as they do of every state of a program that is nested at most 32 deep
  pub length-encode : StateOf P 0 s → nesting P ≤ 32 → length (encode_state P s) ≡ 189
  length-encode h n = length-encode-31 (open-31 P 0 s h n)

  pub decode-encode : StateOf P 0 s → nesting P ≤ 32 → decode_state P (encode_state P s) ≡ right s
  decode-encode h n = decode-encode-31 h (open-31 P 0 s h n)

  -- words that hold a state hold a state of the program
  pub decode-of : (ws : List ℕ) → decode_state P ws ≡ right s → StateOf P 0 s
  unfolding decode_state
  decode-of ws e = read_of (unpacked ws) P 0 s e

  -- and that state's words are those, as they are handed out
  pub encode-decode : (ws : List ℕ) → decode_state P ws ≡ right s → encode_state P s ≡ packed (canonical (unpacked ws))
  unfolding encode_state decode_state
  encode-decode ws e = ap packed (numbers-read (unpacked ws) P 0 s e)

  -- how many entries they hold is how many are open
  pub held-encode : StateOf P 0 s → nesting P ≤ 32 → length (held_from (encode_state P s) 3 31) ≡ open_count s
  unfolding encode_state unpacked
  held-encode h n =
      ap (λ (w : Numbers). length w.held) (unpacked-packed (numbers s P 0) (omega (arith, length-held s P 0, open-31 P 0 s h n)) (opens-held s P 0))
      ∙ length-held s P 0

-- THE START is all zeros
pub encode-start : (P : Block) → encode_state P (start P) ≡ replicate 189 0
unfolding encode_state numbers packed held_words place_of
encode-start P = let z : 0 + (block_size P - block_size P) ≡ 0 = omega arith in rw z refl

pub decode-start : (P : Block) → decode_state P (replicate 189 0) ≡ right (start P)
decode-start P = ap (decode_state P) (sym (encode-start P)) ∙ decode-encode-31 P (start P) (start_of P 0) (unfold open_count in (omega arith))
