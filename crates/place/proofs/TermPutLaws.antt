-- The last term of a term that stands at an index stored over by one as long: a store over the part is one over the whole.
use Prim.Native.Nat.{◌+◌, ℕ}
use mathlib.Core.Path.{ap, sym, ◌∙◌, ◌≡◌}
use mathlib.Core.List.{◌++◌, List, [], append_assoc, append-nil}
use lib.ListN.{length-append}
use native.Mathlib.Omega.{arith}
use Rattle.buffer.specs.LittleEndian.{le}
use Rattle.buffer.specs.Slice.{put}
use Rattle.rules.specs.Syntax.{Simple, Term, let_all, let_one}
use Rattle.record.specs.Term.{encode_simple, encode_term_record, simple_size, term_size}
use Rattle.buffer.proofs.LittleEndianLaws.{length-le}
use Rattle.record.proofs.TermLaws.{length-encode_simple}
use Rattle.record.proofs.HeaderLaws.{length-encode_term_record}
use Rattle.place.specs.At.{At}
use Rattle.place.specs.Heads.{record_head}
use Rattle.place.proofs.AtLaws.{put-part}
use Rattle.place.proofs.HeadsLaws.{length-record_head}
use Rattle.place.proofs.TermBytesLaws.{encode_term_record-let_all, encode_term_record-let_one}

pub put-let_all-last : {l : List ℕ} {p : ℕ} (s t t' : Term) (q : ℕ) → At l p (encode_term_record (let_all s t)) → q ≡ p + (8 + term_size s) → term_size t ≡ term_size t'
    → put l q (encode_term_record t') ≡ put l p (encode_term_record (let_all s t'))
put-let_all-last {l} {p} s t t' q h eq e =
    let hd : List ℕ = record_head 38 (12 + term_size s + term_size t) in
    put-part h (hd ++ encode_term_record s) (encode_term_record t) [] (encode_term_record t') q (encode_term_record-let_all s t ∙ simp (append_assoc, append-nil))
    (rw (length-append hd (encode_term_record s), length-record_head 38 (12 + term_size s + term_size t), length-encode_term_record s) (omega arith))
    (length-encode_term_record t ∙ ap (λ (y : ℕ). 4 + y) e ∙ sym (length-encode_term_record t'))
    ∙ ap (put l p) (sym (encode_term_record-let_all s t' ∙ rw (← e) (simp (append_assoc, append-nil))))

-- a let-one's last term
pub put-let_one-last : {l : List ℕ} {p : ℕ} (x : ℕ) (s : Simple) (t t' : Term) (q : ℕ) → At l p (encode_term_record (let_one x s t)) → q ≡ p + (8 + simple_size s) → term_size t ≡ term_size t'
    → put l q (encode_term_record t') ≡ put l p (encode_term_record (let_one x s t'))
put-let_one-last {l} {p} x s t t' q h eq e =
    let hd : List ℕ = record_head 37 (12 + simple_size s + term_size t) in
    put-part h (hd ++ (le 4 x ++ encode_simple s)) (encode_term_record t) [] (encode_term_record t') q (encode_term_record-let_one x s t ∙ simp (append_assoc, append-nil))
    (simp (length-append, length-record_head, length-le, length-encode_simple) (omega arith))
    (length-encode_term_record t ∙ ap (λ (y : ℕ). 4 + y) e ∙ sym (length-encode_term_record t'))
    ∙ ap (put l p) (sym (encode_term_record-let_one x s t' ∙ rw (← e) (simp (append_assoc, append-nil))))
