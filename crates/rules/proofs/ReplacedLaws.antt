-- Laws of the variables replaced: those before are these and those after; the functions are the rules' own count; and sums split
-- where the reductions do.
use Prim.Native.Nat.{◌*◌, ◌+◌, ◌<◌, suc, zero, ℕ, ◌≤◌}
use mathlib.Core.Path.{ap, ap₂, refl, subst, sym, ◌∙◌, ◌≡◌}
use mathlib.Core.Logic.{◌↔◌}
use mathlib.Core.Bool.{Bool, true}
use mathlib.Core.List.{List, [], map, ◌∷◌}
use mathlib.Core.Option.{Option, some-injective, none, some}
use native.Mathlib.Nat.{suc-mul}
use native.Mathlib.Omega.{arith}
use Rattle.rules.specs.FreeVariables.{atom_of_simple, closed, no_vars}
use Rattle.rules.specs.Reduction.{reduce, value_of}
use Rattle.rules.specs.Replaced.{ReduceReplacing, ReductionsReplacing, done, first, given, let_inside, let_pred, let_succ, let_tuple, let_value, or_zero, rec_suc, rec_zero, references, references_atom, references_atoms, references_simple, replaced, replaced_atom, replaced_atoms, replaced_let_all, replaced_let_one, replaced_next, replaced_simple, replaced_sum}
use Rattle.rules.specs.Rules as rules
use Rattle.rules.specs.Rules.{Reduce}
use Rattle.rules.specs.Run.{iterate, or_stop}
use Rattle.rules.specs.Sound.{SoundTerm}
use Rattle.rules.specs.Store.{Limit, no_limit}
use Rattle.rules.specs.Substitution.{Substitution, except, from_store, only, or_ref, substitute, substitute_atom, substitute_simple}
use Rattle.rules.specs.Syntax.{Answer, Atom, Simple, Term, finished, let_all, let_one, next, num, over, plain, pred_of, rec, ref, succ_of, tuple}
use Rattle.rules.proofs.IterateLaws.{iterate-first}
use Rattle.rules.proofs.RulesLaws.{reduce-iff, rules-reduce}
use Rattle.rules.proofs.SoundTermLaws.{SoundAnswer, sound-closed, sound-reduce}
use Rattle.rules.proofs.SubstitutionLaws.{values-num}

-- OF A SUBSTITUTION: the variables before are those replaced and those after

given-references : (x : ℕ) (o : Option ℕ) → 1 ≡ given o + references_atom (or_ref x o)
unfolding given references_atom or_ref
given-references x none = refl
given-references x (some v) = refl

atom-references : (f : Substitution) (a : Atom) → references_atom a ≡ replaced_atom f a + references_atom (substitute_atom f a)
unfolding references_atom replaced_atom substitute_atom
atom-references f (num n) = refl
atom-references f (ref x) = given-references x (f x)

atoms-references : (f : Substitution) (l : List Atom) → references_atoms l ≡ replaced_atoms f l + references_atoms (map (substitute_atom f) l)
unfolding references_atoms replaced_atoms
atoms-references f [] = refl
atoms-references f (a ∷ l) = omega (arith, atom-references f a, atoms-references f l)

simple-references : (f : Substitution) (s : Simple) → references_simple s ≡ replaced_simple f s + references_simple (substitute_simple f s)
unfolding references_simple replaced_simple substitute_simple
simple-references f (plain a) = atom-references f a
simple-references f (succ_of a) = atom-references f a
simple-references f (pred_of a) = atom-references f a

pub replaced-references : (f : Substitution) (t : Term) → references t ≡ replaced f t + references (substitute f t)
unfolding references replaced substitute
replaced-references f (tuple l) = atoms-references f l
replaced-references f (let_one x s t) = omega (arith, simple-references f s, replaced-references (except x f) t)
replaced-references f (let_all t u) = omega (arith, replaced-references f t)
replaced-references f (rec x a l t) = omega (arith, atom-references f a, atoms-references f l)

-- part by part, as code meets them

pub replaced-tuple : (f : Substitution) (l : List Atom) → replaced f (tuple l) ≡ replaced_atoms f l
unfolding replaced
replaced-tuple f l = refl

pub replaced-let_one : (f : Substitution) (x : ℕ) (s : Simple) (t : Term) → replaced f (let_one x s t) ≡ replaced_atom f (atom_of_simple s) + replaced (except x f) t
unfolding replaced replaced_simple atom_of_simple
replaced-let_one f x (plain a) t = refl
replaced-let_one f x (succ_of a) t = refl
replaced-let_one f x (pred_of a) t = refl

pub replaced-let_all : (f : Substitution) (t u : Term) → replaced f (let_all t u) ≡ replaced f t
unfolding replaced
replaced-let_all f t u = refl

pub replaced-rec : (f : Substitution) (x : ℕ) (a : Atom) (l : List Atom) (t : Term) → replaced f (rec x a l t) ≡ replaced_atom f a + replaced f (tuple l)
unfolding replaced
replaced-rec f x a l t = refl

pub replaced-empty : (f : Substitution) → replaced_atoms f [] ≡ 0
unfolding replaced_atoms
replaced-empty f = refl

pub replaced-row : (f : Substitution) (a : Atom) (l : List Atom) → replaced_atoms f (a ∷ l) ≡ replaced_atom f a + replaced_atoms f l
unfolding replaced_atoms
replaced-row f a l = refl

pub replaced-num : (f : Substitution) (v : ℕ) → replaced_atom f (num v) ≡ 0
unfolding replaced_atom
replaced-num f v = refl

pub replaced-some : (f : Substitution) (x v : ℕ) → f x ≡ some v → replaced_atom f (ref x) ≡ 1
unfolding replaced_atom given
replaced-some f x v e = ap given e

pub replaced-none : (f : Substitution) (x : ℕ) → f x ≡ none → replaced_atom f (ref x) ≡ 0
unfolding replaced_atom given
replaced-none f x e = ap given e

-- OF ONE REDUCTION

module _ (ok : ℕ → Bool) where
  -- what has a reduction is no tuple
  inside-count : {t t₁ : Term} {n : ℕ} (u : Term) (m : ℕ) → ReduceReplacing ok t n t₁ → replaced_let_all t u m ≡ m
  unfolding replaced_let_all
  inside-count u m let_value = refl
  inside-count u m (let_succ h) = refl
  inside-count u m let_pred = refl
  inside-count u m (let_tuple vs) = refl
  inside-count u m (let_inside h) = refl
  inside-count u m rec_zero = refl
  inside-count u m rec_suc = refl

  -- each rule replaces what the function says
  replacing-count : {t u : Term} {n : ℕ} → ReduceReplacing ok t n u → replaced_next t ≡ n
  unfolding replaced_next replaced_let_one value_of
  replacing-count let_value = refl
  replacing-count (let_succ h) = refl
  replacing-count let_pred = refl
  replacing-count (let_tuple vs {u = u}) = unfold replaced_let_all in ap (λ (l : List ℕ). replaced (from_store l) u) (values-num vs)
  replacing-count (let_inside {t = t} {u = u} h) = inside-count u (replaced_next t) h ∙ replacing-count h
  replacing-count rec_zero = refl
  replacing-count rec_suc = refl

  -- and is a reduction of the rules
  replacing-reduces : {t u : Term} {n : ℕ} → ReduceReplacing ok t n u → Reduce ok t u
  replacing-reduces let_value = rules.let_value
  replacing-reduces (let_succ h) = rules.let_succ h
  replacing-reduces let_pred = rules.let_pred
  replacing-reduces (let_tuple vs) = rules.let_tuple vs
  replacing-reduces (let_inside h) = rules.let_inside (replacing-reduces h)
  replacing-reduces rec_zero = rules.rec_zero
  replacing-reduces rec_suc = rules.rec_suc

  -- of which each is one of these
  reduces-some : {t u : Term} → Reduce ok t u → (n : ℕ) × ReduceReplacing ok t n u
  reduces-some (rules.let_value {x = x} {v = v} {t = t}) = (replaced (only x v) t, let_value)
  reduces-some (rules.let_succ h) = (0, let_succ h)
  reduces-some rules.let_pred = (0, let_pred)
  reduces-some (rules.let_tuple vs {u = u}) = (replaced (from_store vs) u, let_tuple vs)
  reduces-some (rules.let_inside h) = let r = reduces-some h in (r.0, let_inside r.1)
  reduces-some rules.rec_zero = (0, rec_zero)
  reduces-some rules.rec_suc = (0, rec_suc)

  -- THE RULES WITH THEIR COUNTS are the rules, each with the one count that the function gives
  pub replacing-iff : (t u : Term) (n : ℕ) → ReduceReplacing ok t n u ↔ (Reduce ok t u × (replaced_next t ≡ n))
  replacing-iff t u n = (
    (λ h. (replacing-reduces h, replacing-count h)),
    (λ h. let r = reduces-some h.0 in subst (λ m. ReduceReplacing ok t m u) (sym (replacing-count r.1) ∙ h.1) r.1),
  )

  -- the reduction that `reduce` makes of a closed term
  pub reduce-replacing : (t u : Term) → closed t ≡ true → reduce ok t ≡ next u → ReduceReplacing ok t (replaced_next t) u
  reduce-replacing t u h e = (replacing-iff t u (replaced_next t)).1 ((reduce-iff ok t u h).0 e, refl)

  -- OF A NUMBER OF REDUCTIONS

  -- with other names for the two numbers
  counted-as : {t u : Term} {i j m n : ℕ} → i ≡ j → m ≡ n → ReductionsReplacing ok t i m u → ReductionsReplacing ok t j n u
  counted-as {t} {u} {i} {j} {m} {n} p q h = subst (λ y. ReductionsReplacing ok t j y u) q (subst (λ x. ReductionsReplacing ok t x m u) p h)

  -- two stretches are one
  pub replacing-add : {t u v : Term} {i j m n : ℕ} → ReductionsReplacing ok t i m u → ReductionsReplacing ok u j n v → ReductionsReplacing ok t (i + j) (m + n) v
  replacing-add done g = counted-as (omega arith) (omega arith) g
  replacing-add (first h r) g = counted-as (omega arith) (omega arith) (first h (replacing-add r g))

  -- and one more at the end, as a run makes them
  pub replacing-last : {t u v : Term} {i m n : ℕ} → ReductionsReplacing ok t i m u → ReduceReplacing ok u n v → ReductionsReplacing ok t (i + 1) (m + n) v
  replacing-last g h = counted-as (omega arith) (omega arith) (replacing-add g (first h done))

  -- the sum that the function gives, where so many can be made
  sum-next : (n : ℕ) (t u : Term) → reduce ok t ≡ next u → replaced_sum ok (suc n) t ≡ replaced_next t + replaced_sum ok n u
  unfolding replaced_sum or_zero
  sum-next n t u e = ap (λ (o : Answer Term). or_zero o (λ v. replaced_next t + replaced_sum ok n v)) e

  pub replacing-sum : {t u : Term} {i n : ℕ} → ReductionsReplacing ok t i n u → replaced_sum ok i t ≡ n
  unfolding replaced_sum
  replacing-sum done = refl
  replacing-sum (first {t = t} {u = u} {steps = i} h r) =
      sum-next i t u (rules-reduce ok (replacing-reduces h)) ∙ ap₂ (λ a b. a + b) (replacing-count h) (replacing-sum r)

  -- where each of them replaces at most `most`, all of them replace at most so many times that
  pub replacing-most : (most : ℕ) {t u : Term} {i n : ℕ} → ReductionsReplacing ok t i n u
      → ((j : ℕ) (v : Term) → j < i → iterate (reduce ok) j t ≡ some v → replaced_next v ≤ most) → n ≤ i * most
  replacing-most most done each = omega arith
  replacing-most most (first {t = t} {u = u} {steps = i} h r) each =
      let here : replaced_next t ≤ most = each 0 t (omega arith) (unfold iterate in refl) in
      let goes : reduce ok t ≡ next u = rules-reduce ok (replacing-reduces h) in
      let rest = replacing-most most r (λ j v l e. each (suc j) v (omega arith) (iterate-first (reduce ok) j t u v goes e)) in
      omega (arith, replacing-count h, suc-mul i most)

-- whatever values pass: two stretches of as many reductions from one term replace as many variables

any-values : {ok : ℕ → Bool} {t u : Term} {n : ℕ} → ReduceReplacing ok t n u → ReduceReplacing no_limit t n u
any-values let_value = let_value
any-values (let_succ h) = let_succ refl
any-values let_pred = let_pred
any-values (let_tuple vs) = let_tuple vs
any-values (let_inside h) = let_inside (any-values h)
any-values rec_zero = rec_zero
any-values rec_suc = rec_suc

all-values : {ok : ℕ → Bool} {t u : Term} {i n : ℕ} → ReductionsReplacing ok t i n u → ReductionsReplacing no_limit t i n u
all-values done = done
all-values (first h r) = first (any-values h) (all-values r)

pub replacing-same : {ok ok₁ : ℕ → Bool} {t u u₁ : Term} {i n n₁ : ℕ} → ReductionsReplacing ok t i n u → ReductionsReplacing ok₁ t i n₁ u₁ → n ≡ n₁
replacing-same g h = sym (replacing-sum no_limit (all-values g)) ∙ replacing-sum no_limit (all-values h)

-- THE RUN OF A CLOSED TERM: so many reductions, counted from the rules, replace what the function gives

module _ (ok : ℕ → Bool) (limit : Limit ok) (k : ℕ) where
  pub reductions-replacing : (n : ℕ) (t u : Term) → SoundTerm ok k no_vars t → iterate (reduce ok) n t ≡ some u → ReductionsReplacing ok t n (replaced_sum ok n t) u
  unfolding iterate
  reductions-replacing zero t u h e = unfold replaced_sum in subst (λ v. ReductionsReplacing ok t 0 0 v) (some-injective t u e) done
  reductions-replacing (suc n) t u h e = go (λ v s f. reductions-replacing n v u s f) (reduce ok t) refl e (sound-reduce ok limit k t h)
    where
      go : ((v : Term) → SoundTerm ok k no_vars v → iterate (reduce ok) n v ≡ some u → ReductionsReplacing ok v n (replaced_sum ok n v) u)
          → (o : Answer Term) → reduce ok t ≡ o → or_stop o (λ v. iterate (reduce ok) n v) ≡ some u → SoundAnswer ok limit k o
          → ReductionsReplacing ok t (suc n) (replaced_sum ok (suc n) t) u
      go more (finished vs) q f s = unfold or_stop in absurd (let z : ◌≡◌ {A = ℕ} 0 1 = cc in omega arith)
      go more over q f s = unfold or_stop in absurd (let z : ◌≡◌ {A = ℕ} 0 1 = cc in omega arith)
      go more (next v) q f s = unfold or_stop in
          counted-as ok refl (sym (sum-next ok n t v q)) (first (reduce-replacing ok t v (sound-closed ok k t h) q) (more v s f))
