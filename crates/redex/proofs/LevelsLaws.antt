-- The walk through the heads of a term's let-alls, as the count of them takes it.
use Prim.Native.Nat.{ℕ}
use mathlib.Core.List.{List}
use lib.ListN.{length}
use Rattle.rules.specs.Syntax.{Term}
use Rattle.place.specs.TermPath.{TermWalk, enters_at, term_path}
use Rattle.place.specs.TermView.{TermAt}
use Rattle.place.proofs.TermPathLaws.{term_walk-end, term_walk-next, term_walk-room, term_walk-start}
use Rattle.plan.proofs.LevelsLaws.{HeadWalk}

pub walks : {l : List ℕ} {o k : ℕ} {t : Term} → TermAt l o k t → HeadWalk (TermWalk t o) (enters_at l) o (length (term_path t)) (length l)
walks {l} {o} {k} {t} h = record { first = term_walk-start t o; next = λ p w. term_walk-next h w; stop = λ p w. term_walk-end h w; low = λ p w. term_walk-room h w }
