use Prim.Native.Nat.{◌+◌, ℕ}
use mathlib.Core.Path.{ap, sym, ◌∙◌}
use native.Mathlib.Omega.{arith}
use Rattle.buffer.specs.LittleEndian.{le}
use Rattle.buffer.specs.Slice.{put}
use Rattle.buffer.proofs.LittleEndianLaws.{length-le}
use Rattle.buffer.proofs.StoresLaws.{stores-2}
use Rattle.record.proofs.HeaderLaws.{contents_at-low, first-fields, second-fields, second-start}
use Rattle.record.proofs.Header.put_fields.Goals as goal

pub put_u32-requires : goal.put_u32-requires
put_u32-requires c = omega (arith, c.requires, contents_at-low c.args.self)

pub put_u32-requires-in-Second : goal.put_u32-requires-in-Second
put_u32-requires-in-Second c =
    let s = second-start c.args.self _ c.in-Second.is in
    omega (arith, s, c.requires, c.put_u32.auto.buf)

pub returns-in-First : goal.returns-in-First
returns-in-First c =
    c.put_u32.ensures
    ∙ ap (put c.args.out.now 4) (sym (first-fields c.args.self c.in-First.is))

pub returns-in-Second : goal.returns-in-Second
returns-in-Second c =
    let a = c.args in
    let first = c.put_u32 in
    let second = c.put_u32-in-Second in
    let e = c.in-Second.is in
    let ceiling = c.in-Second.ceiling in
    stores-2 a.out.now c.put_u32.new.buf c.put_u32-in-Second.new.buf (le 4 a.self.k) (le 4 ceiling) 4 8 first.ensures second.ensures (ap (λ (n : ℕ). 4 + n) (length-le 4 a.self.k))
    (omega (arith, second-start a.self ceiling e, c.requires))
    ∙ ap (put a.out.now 4) (sym (second-fields a.self ceiling e))
