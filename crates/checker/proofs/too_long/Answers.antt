use mathlib.Core.Path.{refl}
use Rattle.checker.proofs.too_long.Goals as goal

pub returns : goal.returns
returns c = refl
