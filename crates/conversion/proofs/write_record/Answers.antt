-- The header, the contents and the zeros, stored one after the other.
use Prim.Native.Nat.{◌+◌}
use native.Mathlib.Omega.{arith}
use mathlib.Core.Path.{◌∙◌, ◌≡◌}
use lib.ListN.{length}
use Rattle.record.specs.Header.{contents_at}
use Rattle.conversion.proofs.WritingLaws.{headed-size, record-stores}
use Rattle.conversion.proofs.write_record.Goals as goal

pub overflow_sub-used : goal.overflow_sub-used
overflow_sub-used c =
    omega (arith, c.contents_at-from.ensures, headed-size c.requires.0.1)

pub copy-requires : goal.copy-requires
copy-requires c =
    let p = c.requires.0 in
    (omega (arith, c.contents_at-from.ensures, headed-size p.1, p.1.within), omega (arith, c.contents_at-from.ensures, c.contents_at.ensures, headed-size p.1, p.2, c.requires.1, c.put_header.auto.buf))

pub returns : goal.returns
returns c =
    λ d q.
    let a = c.args in
    let p = c.requires.0 in
    let n : a.n ≡ contents_at a.g + length d = omega (arith, p.2, headed-size p.1, headed-size q) in
    record-stores q a.g a.out.now _ _ _ a.n _ _ _ n c.contents_at-from.ensures c.contents_at.ensures (c.copy.auto.dst ∙ c.put_header.auto.buf) (omega (arith, c.requires.1, c.copy.auto.dst, c.put_header.auto.buf)) c.put_header.ensures c.copy.ensures c.zero.ensures
