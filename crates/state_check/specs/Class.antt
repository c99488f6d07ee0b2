-- The reading of a state by yes and no (02 C-14, refusal 13). An entry is wrong, which is None, or it is right so far, and of a class.
use Rattle.std.specs.Prelude.{◌-◌, ◌≤◌, suc, zero, ℕ, ◌≡◌, Bool, ◌&&◌, false, true, cond, eqb, None, Option, Some}
use Rattle.std.specs.Bool.{then_some}
use Rattle.std.proofs.Math.Option.{Option as Possible, none, some}
use Rattle.rules.specs.Syntax.{Block, assign, empty, loop, nest}
use Rattle.counting.specs.Counting.{State}
use Rattle.counting.specs.Held.{Held}
use Rattle.counting.specs.Place.{body_at, inside_at}
use Rattle.counting.specs.ReadState.{is_right, Read, read_open}
use Rattle.state_check.specs.declared.Class.{Class}
use Rattle.state_check.specs.declared.Class.TheVariants.{InBlock, InBody, Shut}

-- There is one.
unfoldable pub is_some : Possible Block → Bool
is_some none = false
is_some (some b) = true

-- What an entry comes to, where `inside` says whether what is inside is right.
unfoldable pub class_right : Option Class → Bool → Bool
class_right None inside = false
class_right (Some Shut) inside = true
class_right (Some InBlock) inside = inside
class_right (Some InBody) inside = inside

-- Of a loop within which nothing can be open and no sum can wait.
unfoldable pub shut_class : Bool → ℕ → Option Class
shut_class last waits = then_some (last && eqb waits 0) Shut

-- Of a loop in play, by whether it is running, the count it has reached and its progress.
unfoldable pub loop_class : ℕ → ℕ → ℕ → Option Class → Option Class
loop_class zero c progress shut = cond (eqb progress 0) shut None
loop_class (suc f) zero progress shut = cond (eqb progress 0) shut None
loop_class (suc f) (suc c) zero shut = None
loop_class (suc f) (suc c) (suc zero) shut = shut
loop_class (suc f) (suc c) (suc (suc i)) shut = Some InBody

-- How long the head is before what is inside an entry, and what is added to a place there where it is held.
abbrev pub inside_of : Class → Option (ℕ × ℕ)
inside_of Shut = None
inside_of InBlock = Some (4, 0)
inside_of InBody = Some (20, 2)

-- What is inside what stands first, at the place p, is right: a loop's entry holds the place in its body plus 2.
unfoldable pub inside_right : (Block → ℕ → ℕ → Read State) → Held → ℕ → Block → Bool
inside_right inside h p empty = false
inside_right inside h p (assign x e r) = false
inside_right inside h p (loop x n q r) = is_right (inside q (body_at p) (h.progress - 2))
inside_right inside h p (nest q r) = is_right (inside q (inside_at p) h.progress)

-- An entry of this class is at a place inside what stands first.
abbrev pub Inside : Class → Held → Block → Type 0
Inside class h empty = ⊥
Inside class h (assign x e r) = ⊥
Inside class h (loop x n q r) = (class ≡ InBody) × (2 ≤ h.progress)
Inside class h (nest q r) = class ≡ InBlock

-- What the entry h comes to, where r is left of its holder from the place p on.
pub record ClassOf (waits : ℕ) (last : Bool) (h : Held) (p : ℕ) (r : Block) (class : Option Class) : Type 0 where
  pub opens : (inside : Block → ℕ → ℕ → Read State) → is_right (read_open waits last h p inside r) ≡ class_right class (inside_right inside h p r)
  pub inside : (c : Class) → class ≡ Some c → (c ≡ Shut → ⊥) → Inside c h r
