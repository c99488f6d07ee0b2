-- Laws of the longest state: lengths in other measures, a machine that is held back, and a machine in lock step.
use Prim.Native.Nat.{◌+◌, suc, zero, ℕ, ◌≤◌}
use mathlib.Core.Path.{◌≡◌, ap, refl, sym, ◌∙◌}
use mathlib.Core.Option.{Option, map, some-injective, none, some}
use native.Mathlib.Omega.{arith}
use Rattle.rules.specs.Run.{iterate, or_stop}
use Rattle.rules.specs.Syntax.{Answer, finished, next, over}
use Rattle.rules.proofs.WalkLaws.{Halts}
use Rattle.forecast.specs.Longest.{Longest}

-- every state d bytes longer
pub longest-longer : {A : Type 0} (f : A → Answer A) (size more : A → ℕ) (d : ℕ) → ((a : A) → more a ≡ d + size a)
    → (start : A) (n p : ℕ) → Longest f size start n p → Longest f more start n (d + p)
longest-longer f size more d e start n p l = record {
  most = λ m a h i. omega (arith, e a, l.most m a h i);
  met = let (m, a, h, i, q) = l.met in (m, a, h, i, omega (arith, e a, q));
}

-- who makes n steps makes fewer
pub iterate-fewer : {A : Type 0} (f : A → Answer A) (n m : ℕ) (a c : A) → iterate f n a ≡ some c → m ≤ n → (b : A) × (iterate f m a ≡ some b)
unfolding iterate
iterate-fewer f n zero a c e h = (a, refl)
iterate-fewer f zero (suc m) a c e h = absurd (omega arith)
iterate-fewer {A} f (suc n) (suc m) a c e h = go (λ d g. iterate-fewer f n m d c g (omega arith)) (f a) e
  where
    go : ((d : A) → iterate f n d ≡ some c → (b : A) × (iterate f m d ≡ some b)) → (o : Answer A) → or_stop o (λ d. iterate f n d) ≡ some c
        → (b : A) × (or_stop o (λ d. iterate f m d) ≡ some b)
    go more (finished vs) g = unfold or_stop in absurd (let z : ◌≡◌ {A = ℕ} 0 1 = cc in omega arith)
    go more over g = unfold or_stop in absurd (let z : ◌≡◌ {A = ℕ} 0 1 = cc in omega arith)
    go more (next d) g = unfold or_stop in more d g

-- no more steps are made than to where none is possible
pub steps-most : {A : Type 0} (f : A → Answer A) (n m : ℕ) (a e b : A) → iterate f n a ≡ some e → Halts f e → iterate f m a ≡ some b → m ≤ n
unfolding iterate
steps-most f n zero a e b p h q = omega arith
steps-most {A} f zero (suc m) a e b p h q = go (f a) refl q
  where
    go : (o : Answer A) → f a ≡ o → or_stop o (λ c. iterate f m c) ≡ some b → suc m ≤ 0
    go (finished vs) i g = unfold or_stop in absurd (let z : ◌≡◌ {A = ℕ} 0 1 = cc in omega arith)
    go over i g = unfold or_stop in absurd (let z : ◌≡◌ {A = ℕ} 0 1 = cc in omega arith)
    go (next c) i g = absurd (h c (ap f (sym (some-injective a e p)) ∙ i))
steps-most {A} f (suc n) (suc m) a e b p h q = go (λ c i j. steps-most f n m c e b i h j) (f a) p q
  where
    go : ((c : A) → iterate f n c ≡ some e → iterate f m c ≡ some b → m ≤ n) → (o : Answer A)
        → or_stop o (λ c. iterate f n c) ≡ some e → or_stop o (λ c. iterate f m c) ≡ some b → suc m ≤ suc n
    go more (finished vs) i j = unfold or_stop in absurd (let z : ◌≡◌ {A = ℕ} 0 1 = cc in omega arith)
    go more over i j = unfold or_stop in absurd (let z : ◌≡◌ {A = ℕ} 0 1 = cc in omega arith)
    go more (next c) i j = unfold or_stop in omega (arith, more c i j)

-- so every state of a machine that halts is on the way, and none is longer than its figure
pub longest-most : {A : Type 0} (f : A → Answer A) (size : A → ℕ) (start end : A) (n p : ℕ) → iterate f n start ≡ some end → Halts f end → Longest f size start n p
    → (m : ℕ) (a : A) → iterate f m start ≡ some a → size a ≤ p
longest-most f size start end n p e h l m a i = l.most m a (steps-most f n m start end a e h i) i

-- g makes no step that f does not, and makes the n steps
pub longest-held : {A : Type 0} (f g : A → Answer A) (size : A → ℕ) → ((m : ℕ) (a b : A) → iterate g m a ≡ some b → iterate f m a ≡ some b)
    → (start end : A) (n p : ℕ) → iterate g n start ≡ some end → Longest f size start n p → Longest g size start n p
longest-held f g size as-f start end n p e l = record {
  most = λ m a h i. l.most m a h (as-f m start a i);
  met =
      let (m, a, h, i, q) = l.met in
      let (b, j) = iterate-fewer g n m start end e h in
      let same : b ≡ a = some-injective b a (sym (as-f m start b j) ∙ i) in
      (m, b, h, j, ap size same ∙ q);
}

-- what an image is the image of
pub image-of : {A B : Type 0} (image : A → B) (o : Option A) (b : B) → map image o ≡ some b → (a : A) × (o ≡ some a) × (image a ≡ b)
image-of image none b e = absurd (let z : ◌≡◌ {A = ℕ} 0 1 = cc in omega arith)
image-of image (some a) b e = (a, refl, some-injective (image a) b e)

-- g's states are the images of f's, as long
module _ {A B : Type 0} (f : A → Answer A) (g : B → Answer B) (image : A → B) (size : A → ℕ) (sized : B → ℕ) (same : (a : A) → sized (image a) ≡ size a) where
  pub longest-image : (start : A) → ((m : ℕ) → iterate g m (image start) ≡ map image (iterate f m start))
      → (n p : ℕ) → Longest f size start n p → Longest g sized (image start) n p
  longest-image start lock n p l = record {
    most = λ m b h i.
        let (a, j, q) = image-of image (iterate f m start) b (sym (lock m) ∙ i) in
        omega (arith, l.most m a h j, same a, ap sized q);
    met =
        let (m, a, h, i, q) = l.met in
        (m, image a, h, lock m ∙ ap (map image) i, same a ∙ q);
  }
