-- Laws of places.
use Prim.Native.Nat.{◌+◌, ◌≤◌, ℕ}
use mathlib.Core.Path.{ap, refl, sym, ◌∙◌, ◌≡◌}
use mathlib.Core.Option.{some-injective, none, some}
use lib.Dec.{eqb}
use native.Mathlib.Omega.{arith}
use Rattle.record.specs.Program.{block_size}
use Rattle.record.specs.Reading.{pick}
use Rattle.record.proofs.ReadingLaws.{none-inv, pick_inv, pick_other, pick_same}
use Rattle.rules.specs.Syntax.{Block, Bound, Expr, assign, empty, loop, nest}
use Rattle.place.proofs.ProgramBytesLaws.{block_size-assign, block_size-loop, block_size-nest}
use Rattle.counting.specs.Place.{place_of, rest_at}

-- A BLOCK'S FIRST PLACE, AND THE NEXT

pub rest-self : (b : Block) (a : ℕ) → rest_at b a a ≡ some b
unfolding rest_at
rest-self empty a = pick_same a _ _
rest-self (assign x e r) a = pick_same a _ _
rest-self (loop x n q r) a = pick_same a _ _
rest-self (nest q r) a = pick_same a _ _

pub rest-assign : (x : ℕ) (e : Expr) (r : Block) (a : ℕ) → rest_at (assign x e r) a (a + 16) ≡ some r
unfolding rest_at
rest-assign x e r a = pick_other (a + 16) a _ _ (λ h. omega arith) ∙ rest-self r (a + 16)

pub rest-loop : (x : ℕ) (n : Bound) (q r : Block) (a : ℕ) → rest_at (loop x n q r) a (a + (20 + block_size q)) ≡ some r
unfolding rest_at
rest-loop x n q r a = pick_other (a + (20 + block_size q)) a _ _ (λ h. omega arith) ∙ rest-self r (a + (20 + block_size q))

pub rest-nest : (q r : Block) (a : ℕ) → rest_at (nest q r) a (a + (4 + block_size q)) ≡ some r
unfolding rest_at
rest-nest q r a = pick_other (a + (4 + block_size q)) a _ _ (λ h. omega arith) ∙ rest-self r (a + (4 + block_size q))

-- WHERE A REST STANDS, by its size

pub record Located (b : Block) (a p : ℕ) (r : Block) : Type 0 where
  pub low : a ≤ p
  pub size : p + block_size r ≡ a + block_size b

located-self : (b : Block) (a p : ℕ) (r : Block) → p ≡ a → some b ≡ some r → Located b a p r
located-self b a p r h e = let s : block_size b ≡ block_size r = ap block_size (some-injective b r e) in record { low = omega arith; size = omega arith }

pub rest-located : (b : Block) (a p : ℕ) (r : Block) → rest_at b a p ≡ some r → Located b a p r
unfolding rest_at
rest-located empty a p = pick_inv (Located empty a p) p a _ _ (λ r h e. located-self empty a p r h e) (none-inv (Located empty a p))
rest-located (assign x e t) a p =
    pick_inv (Located (assign x e t) a p) p a _ _ (λ r h f. located-self (assign x e t) a p r h f)
    (λ r f. later (rest-located t (a + 16) p r f))
  where
    later : {r : Block} → Located t (a + 16) p r → Located (assign x e t) a p r
    later l = record { low = omega arith; size = omega (arith, block_size-assign x e t) }
rest-located (loop x n q t) a p =
    pick_inv (Located (loop x n q t) a p) p a _ _ (λ r h f. located-self (loop x n q t) a p r h f)
    (λ r f. later (rest-located t (a + (20 + block_size q)) p r f))
  where
    later : {r : Block} → Located t (a + (20 + block_size q)) p r → Located (loop x n q t) a p r
    later l = record { low = omega arith; size = omega (arith, block_size-loop x n q t) }
rest-located (nest q t) a p =
    pick_inv (Located (nest q t) a p) p a _ _ (λ r h f. located-self (nest q t) a p r h f)
    (λ r f. later (rest-located t (a + (4 + block_size q)) p r f))
  where
    later : {r : Block} → Located t (a + (4 + block_size q)) p r → Located (nest q t) a p r
    later l = record { low = omega arith; size = omega (arith, block_size-nest q t) }

-- so its size says where it stands
pub rest-place : (b : Block) (a p : ℕ) (r : Block) → rest_at b a p ≡ some r → place_of b a (block_size r) ≡ p
unfolding place_of
rest-place b a p r e = let l = rest-located b a p r e in omega arith

-- A REST OF A REST

first : (b c : Block) (a p q : ℕ) (r : Block) → p ≡ a → some b ≡ some c → rest_at c p q ≡ some r → rest_at b a q ≡ some r
first b c a p q r h e f = let same : b ≡ c = some-injective b c e in rw (same, ← h) f

-- the block b at a is a command and then t at n
further : (b t : Block) (a n p q : ℕ) → a + 1 ≤ n → ((m : ℕ) → rest_at b a m ≡ pick (eqb m a) (some b) (rest_at t n m))
    → ((c r : Block) → rest_at t n p ≡ some c → rest_at c p q ≡ some r → rest_at t n q ≡ some r)
    → (c r : Block) → rest_at b a p ≡ some c → rest_at c p q ≡ some r → rest_at b a q ≡ some r
further b t a n p q l parts ih c r e f =
    pick_inv (λ c. rest_at c p q ≡ some r → rest_at b a q ≡ some r) p a (some b) (rest_at t n p) (λ c h e f. first b c a p q r h e f)
    (λ c e f. let g = ih c r e f in let at = rest-located t n q r g in parts q ∙ pick_other q a _ _ (λ h. omega arith) ∙ g)
    c (sym (parts p) ∙ e) f

pub rest-trans : (b : Block) (a p q : ℕ) (c r : Block) → rest_at b a p ≡ some c → rest_at c p q ≡ some r → rest_at b a q ≡ some r
rest-trans empty a p q = λ c r e.
    pick_inv (λ c. rest_at c p q ≡ some r → rest_at empty a q ≡ some r) p a (some empty) none (λ c h e f. first empty c a p q r h e f)
    (none-inv (λ c. rest_at c p q ≡ some r → rest_at empty a q ≡ some r)) c (unfold rest_at in e)
rest-trans (assign x y t) a p q = further (assign x y t) t a (a + 16) p q (omega arith) (λ m. unfold rest_at in refl) (rest-trans t (a + 16) p q)
rest-trans (loop x n b t) a p q =
    further (loop x n b t) t a (a + (20 + block_size b)) p q (omega arith) (λ m. unfold rest_at in refl) (rest-trans t (a + (20 + block_size b)) p q)
rest-trans (nest b t) a p q = further (nest b t) t a (a + (4 + block_size b)) p q (omega arith) (λ m. unfold rest_at in refl) (rest-trans t (a + (4 + block_size b)) p q)

-- THE NEXT COMMAND, from where one stands

pub after-assign : (b : Block) (a p x : ℕ) (e : Expr) (r : Block) → rest_at b a p ≡ some (assign x e r) → rest_at b a (p + 16) ≡ some r
after-assign b a p x e r h = rest-trans b a p (p + 16) (assign x e r) r h (rest-assign x e r p)

pub after-loop : (b : Block) (a p x : ℕ) (n : Bound) (q r : Block) → rest_at b a p ≡ some (loop x n q r) → rest_at b a (p + (20 + block_size q)) ≡ some r
after-loop b a p x n q r h = rest-trans b a p (p + (20 + block_size q)) (loop x n q r) r h (rest-loop x n q r p)

pub after-nest : (b : Block) (a p : ℕ) (q r : Block) → rest_at b a p ≡ some (nest q r) → rest_at b a (p + (4 + block_size q)) ≡ some r
after-nest b a p q r h = rest-trans b a p (p + (4 + block_size q)) (nest q r) r h (rest-nest q r p)
