-- The term behind the header, substituted, and the zeros behind the record: one law of the record layer.
use native.Mathlib.Omega.{arith}
use mathlib.Core.Path.{◌≡◌, ◌∙◌, ap, ap₂}
use Rattle.buffer.specs.Slice.{put}
use Rattle.record.specs.Term.{encode_term_record}
use Rattle.record.proofs.SizeLaws.{term_size-substitute}
use Rattle.rules.specs.Replaced.{replaced}
use Rattle.numerals.specs.Values.{substitution_of}
use Rattle.numerals.proofs.ValuesLaws.{blank, values-blank}
use Rattle.rules.specs.Substitution.{Substitution, from_store, substitute}
use Rattle.substitution.proofs.RangedLaws.{record-ranged}
use Prim.Native.Nat.{ℕ}
use Rattle.place.proofs.WholeLaws.{term-put}
use Rattle.substitution.proofs.substitute.substitute_record.Goals as goal

pub contents_at-requires : goal.contents_at-requires
contents_at-requires c = tt

pub put_store-requires : goal.put_store-requires
unfolding blank
put_store-requires c =
    record { blank = values-blank; few = omega (arith, c.requires.2, c.requires.0.1.header.k-high) }

pub substitute_along-replaced-requires : goal.substitute_along-replaced-requires
substitute_along-replaced-requires c =
    (c.requires.0.0, record-ranged c.requires.0.1 c.requires.1 c.contents_at.ensures)

pub returns : goal.returns
returns c =
    λ t h.
    let f : Substitution = from_store c.args.store.now in
    let done = c.substitute_along-replaced.ensures.substitutes t (record-ranged h c.requires.1 c.contents_at.ensures) in
    let same : substitution_of c.put_store.new.values ≡ f = c.put_store.ensures in
    let e = done.0 ∙ ap₂ (λ (n : ℕ) (g : Substitution). put c.args.buf.now n (encode_term_record (substitute g t))) c.contents_at.ensures same in
    (c.zero.ensures ∙ term-put h (substitute f t) (term_size-substitute f t) _ e, done.1 ∙ ap (λ (g : Substitution). replaced g t) same)
