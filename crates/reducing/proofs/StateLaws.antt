-- Laws of a closed term that stands in a buffer: the bytes of its redex, and a reduction.
use Prim.Native.Nat.{ℕ, ◌*◌, ◌+◌, ◌-◌, ◌≤◌}
use mathlib.Core.Path.{◌≡◌, ◌∙◌, ap, subst, sym}
use mathlib.Core.List.{List, ◌++◌}
use lib.ListN.{drop, length, length-append, take}
use lib.Seq.{length-take-le}
use native.Mathlib.Omega.{arith}
use Rattle.buffer.specs.Slice.{zeros}
use Rattle.record.specs.Answers.{padded}
use Rattle.record.specs.declared.Header.{Header}
use Rattle.record.specs.Header.{contents_at, encode_term, ok_of}
use Rattle.record.specs.Term.{encode_term_record, term_size}
use Rattle.rules.specs.FreeVariables.{no_vars}
use Rattle.rules.specs.Reduction.{reduce}
use Rattle.rules.specs.Sound.{SoundTerm}
use Rattle.rules.specs.Syntax.{Answer, Term, next}
use Rattle.place.specs.Nesting.{around, rests}
use Rattle.place.specs.TermPath.{redex, term_path, terms}
use Rattle.place.specs.TermView.{TermAt}
use Rattle.place.specs.Whole.{term_front}
use Rattle.record.proofs.PaddedLaws.{drop-padded, length-padded}
use Rattle.record.proofs.HoldingLaws.{padded-term, term-size}
use Rattle.record.proofs.HeaderLaws.{length-encode_term_record, ok-limit}
use Rattle.rules.proofs.SoundTermLaws.{SoundAnswer, sound-reduce}
use Rattle.place.proofs.NestingLaws.{plug-keeps}
use Rattle.place.proofs.TermPathLaws.{plug-redex, redex-at, term_size-plug}
use Rattle.place.proofs.WholeLaws.{encode_term-plug, length-term_front, term-at, term-used}
use Rattle.reducing.specs.State.{Stands}

-- A REDUCTION leaves a closed term that stands again, where it fits

sound-after : (hd : Header) (t u : Term) → SoundTerm (ok_of hd) hd.k no_vars t → reduce (ok_of hd) t ≡ next u → SoundTerm (ok_of hd) hd.k no_vars u
sound-after hd t u h e = subst (λ (a : Answer Term). SoundAnswer (ok_of hd) (ok-limit hd) hd.k a) e (sound-reduce (ok_of hd) (ok-limit hd) hd.k t h)

pub stands_after : {hd : Header} {t : Term} {buf : List ℕ} {used : ℕ} (u : Term) → Stands hd t buf used → reduce (ok_of hd) t ≡ next u → length (encode_term hd u) ≤ length buf
    → Stands hd u (padded (length buf) (encode_term hd u)) (length (encode_term hd u))
stands_after {hd} {t} {buf} u h e fits =
    let n : length (padded (length buf) (encode_term hd u)) ≡ length buf = length-padded (length buf) (encode_term hd u) fits in
    record {
      holds = padded-term no_vars hd u (length buf) h.holds.header (sound-after hd t u h.holds.sound e);
      short = omega (arith, h.short);
      clear = ap (λ (m : ℕ). padded m (encode_term hd u)) (sym n);
    }

-- THE REDEX, in its bytes

module _ {hd : Header} {t : Term} {l : List ℕ} {used : ℕ} (h : Stands hd t l used) where
  pub redex-bytes : take used l ≡ term_front hd (term_path t) (4 + term_size (redex t)) ++ (encode_term_record (redex t) ++ rests terms (term_path t))
  redex-bytes = h.holds.bytes ∙ ap (encode_term hd) (sym (plug-redex t)) ∙ encode_term-plug hd (term_path t) (redex t)

  -- the record's length, from the redex
  pub redex-used : contents_at hd + (4 + term_size (redex t) + around terms (term_path t)) ≡ used
  redex-used =
      let e : term_size (redex t) + around terms (term_path t) ≡ term_size t = sym (term_size-plug (term_path t) (redex t)) ∙ ap term_size (plug-redex t) in
      omega (arith, term-used h.holds)

  pub redex-room : contents_at hd + 4 * length (term_path t) + (4 + term_size (redex t)) ≤ used
  redex-room =
      let a : List ℕ = term_front hd (term_path t) (4 + term_size (redex t)) in
      let b : List ℕ = encode_term_record (redex t) in
      let e : used ≡ length a + (length b + length (rests terms (term_path t))) =
      sym (length-take-le used l h.holds.within) ∙ ap length redex-bytes ∙ rw (length-append a (b ++ rests terms (term_path t)), length-append b (rests terms (term_path t))) in
      omega (arith, length-term_front hd (term_path t) (4 + term_size (redex t)), length-encode_term_record (redex t))

  pub redex-stands : TermAt l (contents_at hd + 4 * length (term_path t)) hd.k (redex t)
  redex-stands = redex-at (term-at h.holds h.short)

  pub redex-sound : SoundTerm (ok_of hd) hd.k no_vars (redex t)
  redex-sound =
      plug-keeps terms (λ (u : Term). SoundTerm (ok_of hd) hd.k no_vars u) (λ u r w. w.0) (term_path t) (redex t)
      (subst (λ (u : Term). SoundTerm (ok_of hd) hd.k no_vars u) (sym (plug-redex t)) h.holds.sound)

  -- zeros behind it
  pub zeros-behind : (n : ℕ) → used ≤ n → drop n l ≡ zeros (length l - n)
  zeros-behind n u = ap (drop n) h.clear ∙ drop-padded (length l) n (encode_term hd t) (omega (arith, term-size h.holds))
