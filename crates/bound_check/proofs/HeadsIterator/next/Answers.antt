use native.Mathlib.Omega.{arith}
use mathlib.Core.Path.{refl}
use Prim.Native.Nat.{◌<◌}
use Rattle.bound_check.proofs.HeadLaws.{pass}
use Rattle.bound_check.proofs.HeadsIterator.next.Goals as goal

pub read-kind-requires : goal.read-kind-requires
read-kind-requires c =
    let h = c.requires.1.1 in
    omega (arith, (pass h (omega (arith, h.ends, c.if-self.false)) refl).room)

pub returns-clause-goes : goal.returns-clause-goes
returns-clause-goes c =
    let h = c.requires.1.1 in
    let more : c.args.self.now.at < c.args.self.now.to = omega (arith, h.ends, c.if-self.false) in
    let P = pass h more c.read-kind.ensures in
    rw c.head_size.ensures (record {
      on = λ f. ((c.requires.0, (P.rest, P.row)), tt, omega (arith, P.forward));
      keeps = (c.requires.0, (P.rest, P.row));
      rests = λ f. tt;
    })
