use native.Mathlib.Omega.{arith}
use Rattle.recognition.proofs.ScanLaws.{terms-pass}
use Rattle.recognition.proofs.TermsLaws.{stands-next}
use Rattle.recognition.proofs.TermsIterator.next.Goals as goal

pub overflow_add-self : goal.overflow_add-self
overflow_add-self c = omega (arith, terms-pass c.requires.0.1 c.if-self.false c.own_size.result c.own_size.ensures)

pub returns-clause-goes : goal.returns-clause-goes
returns-clause-goes c =
    let can = stands-next c.args.self.now c.requires c.if-self.false c.own_size.result c.own_size.ensures in
    record { on = λ f. (can, tt, omega (arith, terms-pass c.requires.0.1 c.if-self.false c.own_size.result c.own_size.ensures)); keeps = can; rests = λ f. tt }
