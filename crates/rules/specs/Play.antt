-- A machine under a list of run orders, whatever each is lent: after the list it stands as many steps from its start as the
-- total of the counts says (`PlayLaws`). Generic in the machine and in the world that the orders are played in.
use Rattle.std.specs.Prelude.{◌+◌, ℕ, ◌≡◌, List, [], ◌∷◌}
use Rattle.std.proofs.Math.Option.{some}
use Rattle.rules.specs.Run.{iterate}
use Rattle.rules.specs.Syntax.{Answer}

-- A list of orders played one after the other, `act` playing one.
unfoldable pub plays : {W I : Type 0} → (W → I → W) → W → List I → W
plays act w [] = w
plays act w (i ∷ is) = plays act (act w i) is

-- Each of a list.
abbrev pub Each : {I : Type 0} → (I → Type 0) → List I → Type 0
Each May [] = Unit {0}
Each May (i ∷ is) = May i × Each May is

-- f is the machine's step; `total` its total in a world; `act` plays one order; `Holds w a`: the world w holds the state a.
module _ {A W I : Type 0} (f : A → Answer A) (total : W → ℕ) (act : W → I → W) (Holds : W → A → Type 0) where
  -- One order makes some number of steps, a refused one 0, adds it to the total, and leaves the state after them.
  pub record Moves (w : W) (i : I) (a : A) : Type 0 where
    pub state : A
    pub count : ℕ
    pub counted : total (act w i) ≡ total w + count
    pub stepped : iterate f count a ≡ some state
    pub holds : Holds (act w i) state

  -- The world's state is as many steps from the start as the total says.
  pub record Stands (start : A) (w : W) : Type 0 where
    pub state : A
    pub reached : iterate f (total w) start ≡ some state
    pub holds : Holds w state
