-- One order in both editions, to an engine that holds a record: refused in both, or the same run.
use Prim.Native.Nat.{◌+◌, ◌-◌, suc, zero, ℕ, ◌≤◌}
use mathlib.Core.Path.{ap, ap₂, refl, subst, sym, ◌∙◌, ◌≡◌}
use mathlib.Core.Bool.{Bool}
use mathlib.Core.List.{List}
use mathlib.Core.Option.{some-injective, some}
use lib.ListN.{length}
use native.Mathlib.Omega.{arith}
use Rattle.agreement.specs.Orders.{used_after}
use Rattle.record.specs.declared.Conversion.TheVariants.{ToFirst, ToSecond}
use Rattle.record.specs.declared.Header.{Header}
use Rattle.record.specs.Header.{ok_of}
use Rattle.record.specs.Rows.{Row, first_row}
use Rattle.record.specs.Term.{same}
use Rattle.record.proofs.ConvertedLaws.{converted-ok}
use Rattle.rules.specs.Run.{Ran, iterate}
use Rattle.rules.specs.Syntax.{Answer}
use Rattle.run.specs.RunAnswer.{RunAnswer, accepted, refusal, run_in}
use Rattle.editions.specs.SameRuns.{SameRun}
use Rattle.editions.specs.SameEnds.{new, old}
use Rattle.editions.proofs.MovedLaws.{Both}
use Rattle.editions.proofs.RoomLaws.{RoomFor, RoomIn, same-ran}

-- where a number is 0 and where it is not
pub by_number : {P : Type 0} (n : ℕ) → (n ≡ 0 → P) → ((n ≡ 0 → ⊥) → P) → P
by_number zero f g = f refl
by_number (suc n) f g = g (λ e. omega arith)

pub used-accepted : (m new before : ℕ) → m ≡ 0 → used_after m new before ≡ new
unfolding used_after
used-accepted m new before e = rw e refl

pub used-refused : (m new before : ℕ) → (m ≡ 0 → ⊥) → used_after m new before ≡ before
unfolding used_after
used-refused zero new before h = absurd (h refl)
used-refused (suc m) new before h = refl

-- What a call of an engine leaves: the answer, the buffer, and a store or a count besides.
pub record Done (B : Type 0) : Type 0 where
  pub answer : RunAnswer
  pub buf : List ℕ
  pub besides : B

-- refused: all as it came
abbrev pub refused_done : {B : Type 0} → ℕ → List ℕ → B → Done B
refused_done i b kept = record { answer = refusal i; buf = b; besides = kept }

-- WHAT THE ORDER LEAVES, in both editions; the used length that counts is an accepted order's own, else the one before
pub record OrderSame {A B : Type 0} (In : Header → A → List ℕ → ℕ → Type 0) (h : Header) (buf : List ℕ) (used : ℕ) (other : List ℕ) (n : ℕ) (r r' : Done B) : Type 0 where
  pub held : A
  pub both : Both In h held r.buf (used_after r.answer.number r.answer.used used) r'.buf (used_after r'.answer.number r'.answer.used n)
  pub longer : length other ≡ 4 + length buf → length r'.buf ≡ 4 + length r.buf
  pub run : SameRun r.answer r'.answer
  pub besides : r'.besides ≡ r.besides

-- what is held with other used lengths that are equal
pub counts : {A : Type 0} (In : Header → A → List ℕ → ℕ → Type 0) {h : Header} {x : A} {buf : List ℕ} {used u : ℕ} {other : List ℕ} {n v : ℕ} → used ≡ u → n ≡ v → Both In h x buf u other v
    → Both In h x buf used other n
counts In {h} {x} {buf} {used} {u} {other} {n} {v} e e' p =
    subst (λ (i : ℕ). Both In h x buf i other n) (sym e) (subst (λ (j : ℕ). Both In h x buf u other j) (sym e') p)

-- ACCEPTED BY BOTH

-- a machine whose states hold things that stand in buffers, and what its run leaves besides
module _ {A B X : Type 0} (In : Header → A → List ℕ → ℕ → Type 0) (holding : X → A) (f : (ℕ → Bool) → X → Answer X) (bytes : Header → X → List ℕ) (leaving : (ℕ → Bool) → ℕ → X → B)
    (start : X) (budget : ℕ) where
  -- An accepted run with this header in a buffer of `room` bytes: the state left, which stands there.
  pub record Ended (h : Header) (room : ℕ) (r : Done B) : Type 0 where
    pub state : X
    pub long : ℕ
    pub is : r.answer ≡ accepted budget (run_in (f (ok_of h)) (bytes h) room budget start) long
    pub stepped : iterate (f (ok_of h)) r.answer.steps start ≡ some state
    pub again : In h (holding state) r.buf r.answer.used
    pub same_room : length r.buf ≡ room
    pub leaves : r.besides ≡ leaving (ok_of h) r.answer.steps state

  module _ (h : Header) (longer : (x : X) → length (bytes (new h) x) ≡ 4 + length (bytes (old h) x)) (buf other : List ℕ) where
    ok_same : ok_of (new h) ≡ ok_of (old h)
    ok_same = converted-ok ToSecond ToFirst h h

    abbrev here : Ran X
    here = run_in (f (ok_of (old h))) (bytes (old h)) (length buf) budget start

    abbrev there : (ℕ → Bool) → Ran X
    there ok = run_in (f ok) (bytes (new h)) (length other) budget start

    -- the machine is the same, and the record of each state is 4 bytes longer
    ran-same : RoomFor (length buf) (length other) here.outcome (there (ok_of (new h))).outcome → there (ok_of (new h)) ≡ here
    ran-same =
        subst (λ (ok : ℕ → Bool). RoomFor (length buf) (length other) here.outcome (there ok).outcome → there ok ≡ here) (sym ok_same)
        (λ v. same-ran (f (ok_of (old h))) (bytes (old h)) (bytes (new h)) longer (length buf) (length other) budget start v)

    answers-same : (a b : RunAnswer) (u v : ℕ) → a ≡ accepted budget here u → b ≡ accepted budget (there (ok_of (new h))) v → RoomIn buf other a b → SameRun a b
    answers-same a b u v is is' =
        subst (λ (x : RunAnswer). RoomIn buf other x b → SameRun x b) (sym is)
        (subst (λ (y : RunAnswer). RoomIn buf other (accepted budget here u) y → SameRun (accepted budget here u) y) (sym is')
        (λ v. record {
          outcome = ap (λ (x : Ran X). x.outcome) (ran-same v);
          steps = ap (λ (x : Ran X). x.count) (ran-same v);
          left = ap (λ (x : Ran X). budget - x.count) (ran-same v);
        }))

    module _ {r r' : Done B} (e : Ended (old h) (length buf) r) (e' : Ended (new h) (length other) r')
        (roomy : RoomIn buf other r.answer r'.answer) where
      run-same : SameRun r.answer r'.answer
      run-same = answers-same r.answer r'.answer e.long e'.long e.is e'.is roomy

      state-same : e'.state ≡ e.state
      state-same =
          some-injective e'.state e.state
          (sym e'.stepped ∙ ap₂ (λ (ok : ℕ → Bool) (i : ℕ). iterate (f ok) i start) ok_same run-same.steps ∙ e.stepped)

      pub ended_same : (used n : ℕ) → length buf ≤ 16384 → length other ≤ 16384 → OrderSame In h buf used other n r r'
      ended_same used n low low' = record {
        held = holding e.state;
        both = counts In (used-accepted r.answer.number r.answer.used used (ap (λ (a : RunAnswer). a.number) e.is))
            (used-accepted r'.answer.number r'.answer.used n (ap (λ (a : RunAnswer). a.number) e'.is))
            (record {
              first = e.again;
              second = subst (λ (x : X). In (new h) (holding x) r'.buf r'.answer.used) state-same e'.again;
              low = omega (arith, e.same_room);
              low_other = omega (arith, e'.same_room);
            });
        longer = λ l. omega (arith, e.same_room, e'.same_room, l);
        run = run-same;
        besides = e'.leaves ∙ ap₂ (λ (ok : ℕ → Bool) (i : ℕ). leaving ok i e'.state) ok_same run-same.steps ∙ ap (leaving (ok_of (old h)) r.answer.steps) state-same ∙ sym e.leaves;
      }

-- ANY ORDER: with any used length m and the same 4 more

module _ {A B : Type 0} (In : Header → A → List ℕ → ℕ → Type 0) (rows : List ℕ → ℕ → List Row) (call : List ℕ → ℕ → Done B) (kept : B)
    (refuses : (b : List ℕ) (u : ℕ) → (first_row (rows b u) ≡ 0 → ⊥) → call b u ≡ refused_done (first_row (rows b u)) b kept)
    {h : Header} {x : A} {buf : List ℕ} {used : ℕ} {other : List ℕ} {n : ℕ} (p : Both In h x buf used other n) (longer : n ≡ 4 + used) where
  abbrev Same : ℕ → ℕ → Type 0
  Same i j = OrderSame In h buf used other n (call buf i) (call other j)

  abbrev Room : ℕ → ℕ → Type 0
  Room i j = RoomIn buf other (call buf i).answer (call other j).answer

  refused-both : (i j : ℕ) → (first_row (rows buf i) ≡ 0 → ⊥) → (first_row (rows other j) ≡ 0 → ⊥) → Same i j
  refused-both i j a b =
      subst (λ (r : Done B). OrderSame In h buf used other n r (call other j)) (sym (refuses buf i a))
      (subst (λ (r : Done B). OrderSame In h buf used other n (refused_done (first_row (rows buf i)) buf kept) r) (sym (refuses other j b))
      (record {
        held = x;
        both = counts In (used-refused (first_row (rows buf i)) 0 used a) (used-refused (first_row (rows other j)) 0 n b) p;
        longer = λ l. l;
        run = record { outcome = refl; steps = refl; left = refl };
        besides = refl;
      }))

  pub order_same : first_row (rows buf used) ≡ first_row (rows other n) → ((i : ℕ) → first_row (rows buf i) ≡ 0 → i ≡ used) → ((j : ℕ) → first_row (rows other j) ≡ 0 → j ≡ n)
      → (first_row (rows buf used) ≡ 0 → first_row (rows other n) ≡ 0 → Room used n → Same used n) → (m : ℕ) → Room m (4 + m) → Same m (4 + m)
  order_same own takes takes' accepts m = decide (same m used)
    where
      own_same : Room used n → Same used n
      own_same v = by_number (first_row (rows buf used)) (λ z. accepts z (sym own ∙ z) v) (λ a. refused-both used n a (λ z. a (own ∙ z)))

      decide : Dec (m ≡ used) → Room m (4 + m) → Same m (4 + m)
      decide (yes e) =
          subst (λ (i : ℕ). Room i (4 + m) → Same i (4 + m)) (sym e) (subst (λ (j : ℕ). Room used j → Same used j) (longer ∙ ap (λ (u : ℕ). 4 + u) (sym e)) own_same)
      decide (no d) = λ v. refused-both m (4 + m) (λ z. d (takes m z)) (λ z. d (omega (arith, takes' (4 + m) z, longer)))
