-- Laws of verdicts.
use Prim.Native.Nat.{ℕ}
use mathlib.Core.Path.{ap, ap₂, refl, sym, ◌∙◌, ◌≡◌}
use mathlib.Core.Bool.{◌&&◌, Bool, false, true}
use mathlib.Core.Option.{Option, none, some}
use Rattle.rules.specs.Scope.{Within, in_range}
use Rattle.rules.proofs.ScopeLaws.{in_range-within}
use Rattle.record.specs.HeaderRows.{contents_row, range_row}
use Rattle.checker.specs.declared.Verdict.{Verdict}
use Rattle.checker.specs.declared.Verdict.TheVariants.{Above, Good, Malformed, Outside}
use Rattle.checker.specs.Verdict.{number_of, rated, rating, valued, verdict, worse}

pub not-in_range : (k x : ℕ) → (Within k x → ⊥) → in_range k x ≡ false
not-in_range k x h = go (in_range k x) refl
  where
    go : (t : Bool) → in_range k x ≡ t → t ≡ false
    go true e = absurd (h (in_range-within k x e))
    go false e = refl

-- THE WORSE OF TWO, in any order

pub worse-good : (v : Verdict) → worse v Good ≡ v
worse-good Good = refl
worse-good Above = refl
worse-good Outside = refl
worse-good Malformed = refl

pub worse-malformed : (v : Verdict) → worse v Malformed ≡ Malformed
worse-malformed Good = refl
worse-malformed Above = refl
worse-malformed Outside = refl
worse-malformed Malformed = refl

pub worse-comm : (a b : Verdict) → worse a b ≡ worse b a
worse-comm Good b = sym (worse-good b)
worse-comm Malformed b = sym (worse-malformed b)
worse-comm Above Good = refl
worse-comm Above Above = refl
worse-comm Above Outside = refl
worse-comm Above Malformed = refl
worse-comm Outside Good = refl
worse-comm Outside Above = refl
worse-comm Outside Outside = refl
worse-comm Outside Malformed = refl

pub worse-assoc : (a b c : Verdict) → worse (worse a b) c ≡ worse a (worse b c)
worse-assoc Good b c = refl
worse-assoc Malformed b c = refl
worse-assoc Above Good c = refl
worse-assoc Above Malformed c = refl
worse-assoc Above Above Good = refl
worse-assoc Above Above Above = refl
worse-assoc Above Above Outside = refl
worse-assoc Above Above Malformed = refl
worse-assoc Above Outside Good = refl
worse-assoc Above Outside Above = refl
worse-assoc Above Outside Outside = refl
worse-assoc Above Outside Malformed = refl
worse-assoc Outside Good c = refl
worse-assoc Outside Malformed c = refl
worse-assoc Outside Above Good = refl
worse-assoc Outside Above Above = refl
worse-assoc Outside Above Outside = refl
worse-assoc Outside Above Malformed = refl
worse-assoc Outside Outside Good = refl
worse-assoc Outside Outside Above = refl
worse-assoc Outside Outside Outside = refl
worse-assoc Outside Outside Malformed = refl

pub rated-and : (a b : Bool) → rated (a && b) ≡ worse (rated a) (rated b)
rated-and true b = refl
rated-and false true = refl
rated-and false false = refl

valued-and : (a b : Bool) → valued (a && b) ≡ worse (valued a) (valued b)
valued-and true b = refl
valued-and false true = refl
valued-and false false = refl

-- both tests of two parts
pub both-and : (a b x y : Bool) → worse (rated (a && b)) (valued (x && y)) ≡ worse (worse (rated a) (valued x)) (worse (rated b) (valued y))
both-and a b x y =
    ap₂ worse (rated-and a b) (valued-and x y) ∙ worse-assoc (rated a) (rated b) (worse (valued x) (valued y))
    ∙ ap (worse (rated a)) (sym (worse-assoc (rated b) (valued x) (valued y)) ∙ ap (λ (v : Verdict). worse v (valued y)) (worse-comm (rated b) (valued x)) ∙ worse-assoc (valued x) (rated b) (valued y))
    ∙ sym (worse-assoc (rated a) (valued x) (worse (rated b) (valued y)))

-- THE NUMBER OF A VERDICT is that of the first of rows 4, 5 and 15 that applies

pub number-verdict : {A : Type 0} (p q : A → Bool) (o : Option A) → number_of (verdict (rating p q) o) ≡ contents_row p q o
number-verdict p q none = refl
number-verdict p q (some a) = go (p a) (q a)
  where
    go : (b c : Bool) → number_of (worse (rated b) (valued c)) ≡ range_row b c
    go true true = refl
    go true false = refl
    go false true = refl
    go false false = refl
