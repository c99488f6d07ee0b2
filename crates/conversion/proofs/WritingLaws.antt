-- A record's contents behind another header, stored one after the other.
use Prim.Native.Nat.{◌+◌, ◌-◌, ℕ, ◌≤◌}
use mathlib.Core.Path.{ap, sym, ◌∙◌, ◌≡◌}
use mathlib.Core.List.{List}
use lib.ListN.{length}
use native.Mathlib.Omega.{arith}
use Rattle.buffer.specs.Slice.{part, put, zeros}
use Rattle.buffer.proofs.StoresLaws.{stores-2}
use Rattle.record.specs.Answers.{padded}
use Rattle.record.specs.declared.Header.{Header}
use Rattle.record.specs.declared.Sort.{Sort}
use Rattle.record.specs.Header.{contents_at, headed}
use Rattle.record.proofs.BetweenLaws.{between}
use Rattle.record.proofs.HeaderLaws.{length-headed}
use Rattle.record.proofs.HeldLaws.{contents-at, held-contents, held-header, held-size}
use Rattle.record.proofs.PaddedLaws.{put-padded}
use Rattle.place.specs.Whole.{header}
use Rattle.place.proofs.WholeLaws.{headed-header, length-header}
use Rattle.conversion.specs.Converting.{HeadedIn}

module _ {s : Sort} {h : Header} {c src : List ℕ} {used : ℕ} (p : HeadedIn s h c src used) where
  pub headed-size : used ≡ contents_at h + length c
  headed-size = held-size s h p.header c src used p.within p.bytes

  -- the contents as code finds them
  headed-part : (from : ℕ) → from ≡ contents_at h → part src from (used - from) ≡ c
  unfolding part
  headed-part from e =
      ap (λ (m : ℕ). between src m used) (e ∙ ap contents_at (sym (held-header s h p.header c src used p.within p.bytes)))
      ∙ sym (contents-at src used)
      ∙ held-contents s h p.header c src used p.within p.bytes

  -- the header, the contents and the zeros
  pub record-stores : (g : Header) (out out₁ out₂ out₃ : List ℕ) (n from start room : ℕ) → n ≡ contents_at g + length c → from ≡ contents_at h → start ≡ contents_at g
      → room ≡ length out → n ≤ room → out₁ ≡ put out 0 (header s g n) → out₂ ≡ put out₁ start (part src from (used - from)) → out₃ ≡ put out₂ n (zeros (room - n))
      → out₃ ≡ padded (length out) (headed s g c)
  record-stores g out out₁ out₂ out₃ n from start room e f b r fits e₁ e₂ e₃ =
      let t : List ℕ = headed s g c in
      let both : out₂ ≡ put out 0 t =
      stores-2 out out₁ out₂ (header s g n) c 0 start e₁ (e₂ ∙ ap (put out₁ start) (headed-part from f)) (omega (arith, length-header s g n)) (omega arith)
      ∙ ap (put out 0) (sym (headed-header s g n c (sym e))) in
      rw (e₃, both, r) (put-padded out t n (length-headed s g c ∙ sym e) (omega arith))
