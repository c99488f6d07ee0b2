use native.Mathlib.Omega.{arith}
use mathlib.Core.Path.{sym}
use Rattle.reader.proofs.HeadLaws.{head-end, head-record, head-short}
use Rattle.reader.proofs.read_head.Goals as goal

pub returns-then-bytes-at : goal.returns-then-bytes-at
returns-then-bytes-at c = sym (head-end _ _ (omega arith))

pub returns-then-bytes-at-lt4 : goal.returns-then-bytes-at-lt4
returns-then-bytes-at-lt4 c = sym (head-short _ _ (omega arith) (λ least inside. omega (arith, least, inside)))

pub returns-then-length-lt4 : goal.returns-then-length-lt4
returns-then-length-lt4 c = sym (head-short _ _ (omega arith) (λ least inside. omega (arith, least, inside)))

pub returns-then-bytes-at-2 : goal.returns-then-bytes-at-2
returns-then-bytes-at-2 c = sym (head-short _ _ (omega arith) (λ least inside. omega (arith, least, inside)))

pub returns : goal.returns
returns c =
    sym (head-record _ _ _ _ c.get_u16-length.ensures.0 c.get_u16-kind.ensures.0 (omega arith) (omega arith))
