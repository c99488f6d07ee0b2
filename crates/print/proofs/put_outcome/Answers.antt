-- Each arm knows its case, and there the word computes.
use native.Mathlib.Omega.{arith}
use Rattle.print.specs.Words.{outcome_word}
use Rattle.print.proofs.put_outcome.Goals as goal

pub returns-in-Finished : goal.returns-in-Finished
unfolding outcome_word
returns-in-Finished c =
    rw c.in-Finished.is (c.put_word.ensures.0, c.put_word.ensures.1, omega (arith, c.put_word.ensures.1))

pub returns-in-Over : goal.returns-in-Over
unfolding outcome_word
returns-in-Over c =
    rw c.in-Over.is (c.put_word-in-Over.ensures.0, c.put_word-in-Over.ensures.1, omega (arith, c.put_word-in-Over.ensures.1))

pub returns-in-NoRoom : goal.returns-in-NoRoom
unfolding outcome_word
returns-in-NoRoom c =
    rw c.in-NoRoom.is (c.put_word-in-NoRoom.ensures.0, c.put_word-in-NoRoom.ensures.1, omega (arith, c.put_word-in-NoRoom.ensures.1))

pub returns-in-Spent : goal.returns-in-Spent
unfolding outcome_word
returns-in-Spent c =
    rw c.in-Spent.is (c.put_word-in-Spent.ensures.0, c.put_word-in-Spent.ensures.1, omega (arith, c.put_word-in-Spent.ensures.1))

pub returns-in-Refused : goal.returns-in-Refused
unfolding outcome_word
returns-in-Refused c =
    rw c.in-Refused.is (c.put_word-in-Refused.ensures.0, c.put_word-in-Refused.ensures.1, omega (arith, c.put_word-in-Refused.ensures.1))
