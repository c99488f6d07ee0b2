use Prim.Native.Nat.{ℕ}
use mathlib.Core.Path.{ap, ap₂, sym, ◌∙◌}
use native.Mathlib.Omega.{arith}
use Rattle.record.proofs.HeaderLaws.{as_first, as-second, contents_at-low, second-start}
use Rattle.buffer.specs.Slice.{part}
use Rattle.record.specs.declared.Edition.{Edition}
use Rattle.record.specs.declared.Edition.TheVariants.{Second}
use Rattle.record.specs.Header.{header_in, k_field}
use Rattle.record.proofs.read_header.Goals as goal

pub get_u32-k-requires : goal.get_u32-k-requires
get_u32-k-requires c = omega (arith, c.requires, contents_at-low (header_in c.args.buf.now))

pub get_u16-requires : goal.get_u16-requires
get_u16-requires c = omega (arith, c.requires, contents_at-low (header_in c.args.buf.now))

pub get_u32-requires : goal.get_u32-requires
get_u32-requires c =
    let buf = c.args.buf.now in
    let e = as-second buf c.get_u16.result c.is_second.result c.get_u16.ensures.0 c.is_second.ensures c.if-is_second.true in
    omega (arith, c.requires, second-start (header_in buf) _ e)

pub returns-then-is_second : goal.returns-then-is_second
unfolding k_field part
returns-then-is_second c =
    let buf = c.args.buf.now in
    let e = as-second buf c.get_u16.result c.is_second.result c.get_u16.ensures.0 c.is_second.ensures c.if-is_second.true in
    ap₂ (λ (k : ℕ) (e : Edition). record { k = k; edition = e }) c.get_u32-k.ensures (ap Second c.get_u32.ensures ∙ sym e)

pub returns : goal.returns
unfolding k_field part
returns c =
    let buf = c.args.buf.now in
    let e = as_first buf c.get_u16.result c.is_second.result c.get_u16.ensures.0 c.is_second.ensures c.if-is_second.false in
    ap₂ (λ (k : ℕ) (e : Edition). record { k = k; edition = e }) c.get_u32-k.ensures (sym e)
