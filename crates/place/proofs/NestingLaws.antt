-- Laws of paths: the bytes and sizes of a tree at the end of one, paths in two parts, and the lengths along one.
use Prim.Native.Nat.{◌*◌, ◌+◌, ◌-◌, ◌<◌, suc, ℕ}
use mathlib.Core.Path.{ap, refl, sym, ◌∙◌, ◌≡◌}
use mathlib.Core.List.{◌++◌, List, [], append_assoc, append-nil, ◌∷◌}
use lib.ListN.{length, length-append}
use native.Mathlib.Omega.{arith}
use Rattle.place.specs.At.{At}
use Rattle.place.specs.Heads.{Lengths, heads_around, relength, shifted}
use Rattle.place.specs.Nesting.{Nesting, Nests, around, beside, heads, plug, rests}
use Rattle.place.proofs.AtLaws.{at_part}
use Rattle.place.proofs.HeadsLaws.{length-heads_around, length-record_head, relength-heads}

module _ {T : Type 0} (N : Nesting T) where
  pub plug-nil : (t : T) → plug N [] t ≡ t
  unfolding plug
  plug-nil t = refl

  pub plug-cons : (r : T) (p : List T) (t : T) → plug N (r ∷ p) t ≡ N.wrap (plug N p t) r
  unfolding plug
  plug-cons r p t = refl

  -- A PATH IN TWO PARTS

  pub plug-append : (p q : List T) (t : T) → plug N (p ++ q) t ≡ plug N p (plug N q t)
  unfolding plug
  plug-append [] q t = refl
  plug-append (r ∷ p) q t = ap (λ (x : T). N.wrap x r) (plug-append p q t)

  -- one level deeper
  pub plug-snoc : (p : List T) (r t : T) → plug N (p ++ (r ∷ [])) t ≡ plug N p (N.wrap t r)
  unfolding plug
  plug-snoc p r t = plug-append p (r ∷ []) t

  pub around-append : (p q : List T) → around N (p ++ q) ≡ around N p + around N q
  unfolding around
  around-append [] q = omega arith
  around-append (r ∷ p) q = omega (arith, around-append p q)

  pub heads-append : (p q : List T) (n : ℕ) → heads N (p ++ q) n ≡ heads N p (n + around N q) ++ heads N q n
  unfolding heads heads_around beside
  heads-append [] q n = refl
  heads-append (r ∷ p) q n =
      let e : n + (4 + around N (p ++ q) + N.inside r) ≡ n + around N q + (4 + around N p + N.inside r) = omega (arith, around-append p q) in
      rw (e, heads-append p q n) (simp append_assoc)

  pub rests-append : (p q : List T) → rests N (p ++ q) ≡ rests N q ++ rests N p
  unfolding rests
  rests-append [] q = sym (append-nil (rests N q))
  rests-append (r ∷ p) q = rw (rests-append p q) (simp append_assoc)

  -- WHAT A TREE HAS, those inside it have; what is the same of a tree and those inside it

  pub plug-keeps : (P : T → Type 0) → ((t r : T) → P (N.wrap t r) → P t) → (p : List T) (t : T) → P (plug N p t) → P t
  unfolding plug
  plug-keeps P f [] t h = h
  plug-keeps P f (r ∷ p) t h = plug-keeps P f p t (f (plug N p t) r h)

  pub plug-same : {A : Type 0} (f : T → A) → ((t r : T) → f (N.wrap t r) ≡ f t) → (p : List T) (t : T) → f (plug N p t) ≡ f t
  unfolding plug
  plug-same f h [] t = refl
  plug-same f h (r ∷ p) t = h (plug N p t) r ∙ plug-same f h p t

  -- LENGTHS

  pub length-beside : (p : List T) → length (beside N p) ≡ length p
  unfolding beside
  length-beside [] = refl
  length-beside (r ∷ p) = ap suc (length-beside p)

  pub length-heads : (p : List T) (n : ℕ) → length (heads N p n) ≡ 4 * length p
  unfolding heads
  length-heads p n = length-heads_around N.kind (beside N p) n ∙ ap (λ (y : ℕ). 4 * y) (length-beside p)

  module _ (L : Nests N) where
    pub size-wrap : (t r : T) → N.size (N.wrap t r) ≡ 4 + N.size t + N.size r
    size-wrap t r =
        sym (L.length-encode (N.wrap t r)) ∙ ap length (L.encode-wrap t r)
        ∙ simp (length-append, length-record_head, L.length-encode) (omega arith)

    pub size-plug : (p : List T) (t : T) → N.size (plug N p t) ≡ N.size t + around N p
    unfolding plug around
    size-plug [] t = omega arith
    size-plug (r ∷ p) t = size-wrap (plug N p t) r ∙ omega (arith, size-plug p t)

    -- what the tree at the end of a path gains or loses, the whole does
    pub size-shifted : (up down : ℕ) (p : List T) (t u : T) → N.size u + down ≡ N.size t + up → N.size (plug N p u) + down ≡ N.size (plug N p t) + up
    size-shifted up down p t u e = omega (arith, size-plug p t, size-plug p u)

    pub length-rests : (p : List T) → 4 * length p + length (rests N p) ≡ around N p
    unfolding rests around
    length-rests [] = refl
    length-rests (r ∷ p) = simp (length-append, L.length-encode) (omega (arith, length-rests p))

    -- THE BYTES of a tree at the end of a path: the heads, its own, and what follows

    pub encode-plug : (p : List T) (t : T) → N.encode (plug N p t) ≡ heads N p (N.size t) ++ (N.encode t ++ rests N p)
    unfolding plug heads heads_around beside rests
    encode-plug [] t = sym (append-nil (N.encode t))
    encode-plug (r ∷ p) t =
        let e : 4 + N.size (plug N p t) + N.inside r ≡ N.size t + (4 + around N p + N.inside r) = omega (arith, size-plug p t) in
        L.encode-wrap (plug N p t) r ∙ rw (e, encode-plug p t) (simp append_assoc)

    -- the tree at the end of a path stands four bytes further for each level
    pub plug-at : {l : List ℕ} {o : ℕ} (p : List T) (t : T) → At l o (N.encode (plug N p t)) → At l (o + 4 * length p) (N.encode t)
    plug-at {l} {o} p t h =
        at_part h (heads N p (N.size t)) (N.encode t) (rests N p) (o + 4 * length p) (encode-plug p t) (ap (λ (y : ℕ). o + y) (length-heads p (N.size t)))

    -- THE LENGTHS ALONG A PATH

    pub lengths-beside : (p : List T) (n : ℕ) → n + around N p < 65536 → Lengths (beside N p) n
    unfolding around beside
    lengths-beside [] n h = tt
    lengths-beside (r ∷ p) n h = (omega (arith, L.inside-le r), lengths-beside p n (omega arith))

    -- the lengths around n bytes become those around m
    pub relength-path : (f : ℕ → ℕ) (n m : ℕ) → ((e : ℕ) → f (n + e) ≡ m + e) → (p : List T) (pre post : List ℕ) (o : ℕ) → length pre ≡ o → n + around N p < 65536
        → relength f (length p) o (pre ++ (heads N p n ++ post)) ≡ pre ++ (heads N p m ++ post)
    unfolding heads
    relength-path f n m changes p pre post o hp h =
        ap (λ (c : ℕ). relength f c o (pre ++ (heads_around N.kind (beside N p) n ++ post))) (sym (length-beside p))
        ∙ relength-heads f n m changes N.kind (beside N p) pre post o hp (lengths-beside p n h)

    -- so many bytes more and so many fewer; only more; only fewer
    pub relength-shifted : (up down n m : ℕ) (p : List T) (pre post : List ℕ) (o : ℕ) → m + down ≡ n + up → length pre ≡ o → n + around N p < 65536
        → relength (shifted up down) (length p) o (pre ++ (heads N p n ++ post)) ≡ pre ++ (heads N p m ++ post)
    relength-shifted up down n m p pre post o e = relength-path (shifted up down) n m (λ i. omega arith) p pre post o

    pub relength-more : (d n : ℕ) (p : List T) (pre post : List ℕ) (o : ℕ) → length pre ≡ o → n + around N p < 65536
        → relength (λ v. v + d) (length p) o (pre ++ (heads N p n ++ post)) ≡ pre ++ (heads N p (n + d) ++ post)
    relength-more d n p pre post o = relength-path (λ v. v + d) n (n + d) (λ i. omega arith) p pre post o

    pub relength-fewer : (d n : ℕ) (p : List T) (pre post : List ℕ) (o : ℕ) → length pre ≡ o → n + d + around N p < 65536
        → relength (λ v. v - d) (length p) o (pre ++ (heads N p (n + d) ++ post)) ≡ pre ++ (heads N p n ++ post)
    relength-fewer d n p pre post o = relength-path (λ v. v - d) (n + d) n (λ i. omega arith) p pre post o
