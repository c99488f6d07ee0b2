-- Laws of the whole record: its bytes around a path, and what a change at the path's end means for every length.
use Prim.Native.Nat.{◌*◌, ◌+◌, ◌-◌, ◌<◌, ◌≤◌, suc, ℕ}
use mathlib.Core.Path.{ap, refl, sym, ◌∙◌, ◌≡◌}
use mathlib.Core.List.{◌++◌, List, [], append_assoc, append-nil, ◌∷◌}
use lib.ListN.{drop, length, length-append, length-drop, take}
use native.Mathlib.Omega.{arith}
use Rattle.buffer.specs.LittleEndian.{le, val}
use Rattle.buffer.specs.Slice.{part, put, zeros}
use Rattle.rules.specs.Syntax.{Block, Term, empty, nest}
use Rattle.record.specs.declared.Header.{Header}
use Rattle.record.specs.declared.Sort.{Sort}
use Rattle.record.specs.Header.{block_bytes, contents_at, encode_program, encode_term, fields_of, headed, kind_of, program, term}
use Rattle.record.specs.Holding.{ProgramIn, TermIn}
use Rattle.record.specs.Program.{block_size, encode_block}
use Rattle.record.specs.Record.{encode_record}
use Rattle.record.specs.Term.{encode_term_record, term_size}
use Rattle.buffer.proofs.SliceLaws.{length-zeros, put-re}
use Rattle.buffer.proofs.StoresLaws.{stores-2}
use Rattle.record.specs.Answers.{padded}
use Rattle.record.proofs.HeaderLaws.{length-block_bytes, length-encode_program, length-encode_term, length-encode_term_record, length_fields}
use Rattle.record.proofs.HoldingLaws.{BlockHeld, block-size, program-held, term-size, term-words}
use Rattle.record.proofs.PaddedLaws.{padded-zeros}
use Rattle.record.proofs.ProgramLaws.{length-encode_block}
use Rattle.rules.specs.FreeVariables.{Vars}
use Rattle.place.specs.At.{At}
use Rattle.place.specs.Heads.{record_head, relength, shifted}
use Rattle.place.specs.Nesting.{Nesting, Nests, around, heads, plug, rests}
use Rattle.place.specs.Path.{blocks}
use Rattle.place.specs.ProgramView.{BlockAt}
use Rattle.place.specs.TermPath.{terms}
use Rattle.place.specs.TermView.{TermAt}
use Rattle.place.specs.Whole.{block_at, front, header, program_front, relength_all, term_front}
use Rattle.place.proofs.AtLaws.{at_part, take_split}
use Rattle.place.proofs.HeadsLaws.{encode_record-head, length_at, length-record_head, put-length}
use Rattle.place.proofs.NestingLaws.{encode-plug, length-heads, plug-nil, relength-shifted, size-plug}
use Rattle.place.proofs.PathLaws.{blocks-nest}
use Rattle.place.proofs.TermPathLaws.{terms-nest}
use Rattle.place.proofs.TermViewLaws.{term-index}

-- THE BYTES

pub length-header : (s : Sort) (h : Header) (n : ℕ) → length (header s h n) ≡ contents_at h
unfolding header
length-header s h n = simp (length-append, length-record_head) (length_fields h)

-- stored as a head and the fields behind it
pub put-header : (s : Sort) (h : Header) (n : ℕ) (l l₁ l₂ : List ℕ) → l₁ ≡ put l 0 (record_head (kind_of s h) n) → l₂ ≡ put l₁ 4 (fields_of h) → 4 ≤ length l
    → l₂ ≡ put l 0 (header s h n)
unfolding header
put-header s h n l l₁ l₂ e₁ e₂ long = stores-2 l l₁ l₂ (record_head (kind_of s h) n) (fields_of h) 0 4 e₁ e₂ (omega (arith, length-record_head (kind_of s h) n)) long

pub headed-header : (s : Sort) (h : Header) (n : ℕ) (c : List ℕ) → contents_at h + length c ≡ n → headed s h c ≡ header s h n ++ c
unfolding headed header
headed-header s h n c e =
    encode_record-head (kind_of s h) n (fields_of h ++ c) (rw (length-append (fields_of h) c) (omega (arith, length_fields h))) ∙ sym (append_assoc (record_head (kind_of s h) n) (fields_of h) c)

module _ {T : Type 0} (N : Nesting T) (s : Sort) (hd : Header) where
  pub length_front : (p : List T) (n : ℕ) → length (front N s hd p n) ≡ contents_at hd + 4 * length p
  unfolding front
  length_front p n = simp (length-append, length-heads) (ap (λ (y : ℕ). y + 4 * length p) (length-header s hd (contents_at hd + (n + around N p))))

  module _ (L : Nests N) where
    pub headed-plug : (p : List T) (t : T) → headed s hd (N.encode (plug N p t)) ≡ front N s hd p (N.size t) ++ (N.encode t ++ rests N p)
    unfolding front
    headed-plug p t =
        let n : ℕ = contents_at hd + (N.size t + around N p) in
        headed-header s hd n (N.encode (plug N p t)) (ap (λ (y : ℕ). contents_at hd + y) (L.length-encode (plug N p t) ∙ size-plug N L p t))
        ∙ rw (encode-plug N L p t) (simp append_assoc)

    -- THE LENGTHS, all of them

    pub relength_all-front : (up down n m : ℕ) (p : List T) (post : List ℕ) → m + down ≡ n + up → contents_at hd + (n + around N p) < 65536
        → relength_all (shifted up down) (contents_at hd) (length p) (front N s hd p n ++ post) ≡ front N s hd p m ++ post
    unfolding relength_all front header
    relength_all-front up down n m p post e h =
        let a : ℕ = contents_at hd + (n + around N p) in
        let b : ℕ = contents_at hd + (m + around N p) in
        let q : List ℕ = fields_of hd ++ (heads N p n ++ post) in
        let l : List ℕ = ((record_head (kind_of s hd) a ++ fields_of hd) ++ heads N p n) ++ post in
        let is : l ≡ [] ++ (record_head (kind_of s hd) a ++ q) = simp append_assoc in
        let v : val (part l 0 2) ≡ a = length_at (kind_of s hd) a q (record { pre = []; post = []; is = is ∙ sym (append-nil (record_head (kind_of s hd) a ++ q)); len = refl }) h in
        let w : shifted up down a ≡ b = omega arith in
        let front₀ : List ℕ = record_head (kind_of s hd) b ++ fields_of hd in
        let put₀ : put l 0 (le 2 (shifted up down (val (part l 0 2)))) ≡ front₀ ++ (heads N p n ++ post) =
        rw (v, w) (put-length l [] q 0 (kind_of s hd) a b is refl ∙ simp append_assoc) in
        rw put₀ (relength-shifted N L up down n m p front₀ post (contents_at hd) e (simp (length-append, length-record_head) (length_fields hd)) (omega arith) ∙ simp append_assoc)

    -- the tree at the path's end changed from n bytes to those of t, and all lengths brought up to date
    pub headed-relength : (up down n : ℕ) (p : List T) (t : T) (l tail : List ℕ) → l ≡ front N s hd p n ++ (N.encode t ++ (rests N p ++ tail))
        → N.size t + down ≡ n + up → contents_at hd + (n + around N p) < 65536
        → relength_all (shifted up down) (contents_at hd) (length p) l ≡ headed s hd (N.encode (plug N p t)) ++ tail
    headed-relength up down n p t l tail is e h =
        rw (is, headed-plug p t) (relength_all-front up down n (N.size t) p (N.encode t ++ (rests N p ++ tail)) e h ∙ simp append_assoc)

-- the header's length first, and then those of the contents
pub relength_all-is : (f : ℕ → ℕ) (start count : ℕ) (l : List ℕ) → relength f count start (put l 0 (le 2 (f (val (part l 0 2))))) ≡ relength_all f start count l
unfolding relength_all
relength_all-is f start count l = refl

-- PROGRAMS

-- the contents of a program's record are a block command with nothing behind it
block_bytes-nest : (b : Block) → block_bytes b ≡ encode_block (nest b empty)
unfolding block_bytes encode_block
block_bytes-nest b = sym (append-nil (encode_record 1 (encode_block b)))

encode_program-headed : (h : Header) (p : List Block) (b : Block) → encode_program h (plug blocks p b) ≡ headed program h (encode_block (plug blocks (empty ∷ p) b))
unfolding encode_program plug
encode_program-headed h p b = ap (headed program h) (block_bytes-nest (plug blocks p b))

-- with the heads in sight
pub encode_program-header : (h : Header) (b : Block) (n : ℕ) → n ≡ length (encode_program h b) → encode_program h b ≡ header program h n ++ (record_head 1 (4 + block_size b) ++ encode_block b)
unfolding encode_program block_bytes
encode_program-header h b n e =
    headed-header program h n (block_bytes b) (omega (arith, length-encode_program h b, length-block_bytes b))
    ∙ ap (λ (y : List ℕ). header program h n ++ y) (encode_record-head 1 (4 + block_size b) (encode_block b) (ap (λ (m : ℕ). 4 + m) (length-encode_block b)))

rests-empty : (p : List Block) → rests blocks (empty ∷ p) ≡ rests blocks p
unfolding rests encode_block
rests-empty p = append-nil (rests blocks p)

around-empty : (p : List Block) → around blocks (empty ∷ p) ≡ 4 + around blocks p
unfolding around block_size
around-empty p = omega arith

pub length-program_front : (h : Header) (p : List Block) (n : ℕ) → length (program_front h p n) ≡ block_at h + 4 * length p
length-program_front h p n = length_front blocks program h (empty ∷ p) n ∙ omega arith

pub encode_program-plug : (h : Header) (p : List Block) (b : Block) → encode_program h (plug blocks p b) ≡ program_front h p (block_size b) ++ (encode_block b ++ rests blocks p)
encode_program-plug h p b =
    encode_program-headed h p b ∙ headed-plug blocks program h blocks-nest (empty ∷ p) b
    ∙ ap (λ (y : List ℕ). program_front h p (block_size b) ++ (encode_block b ++ y)) (rests-empty p)

-- the block at the path's end changed from n bytes to those of b in the first `used` bytes, and all lengths brought up to date
pub encode_program-relength : (h : Header) (up down n used : ℕ) (p : List Block) (b : Block) (l : List ℕ) → take used l ≡ program_front h p n ++ (encode_block b ++ rests blocks p)
    → block_size b + down ≡ n + up → block_at h + (n + around blocks p) < 65536
    → relength_all (shifted up down) (contents_at h) (suc (length p)) l ≡ encode_program h (plug blocks p b) ++ drop used l
encode_program-relength h up down n used p b l held e s =
    let is : l ≡ program_front h p n ++ (encode_block b ++ (rests blocks p ++ drop used l)) = take_split used l (program_front h p n ++ (encode_block b ++ rests blocks p)) held ∙ simp append_assoc in
    headed-relength blocks program h blocks-nest up down n (empty ∷ p) b l (drop used l) (rw (rests-empty p) is) e (omega (arith, around-empty p))
    ∙ ap (λ (y : List ℕ). y ++ drop used l) (sym (encode_program-headed h p b))

-- A BUFFER THAT HOLDS A BLOCK'S RECORD: its commands stand behind the header and the head of the block
module _ {h : Header} {P : Block} {buf : List ℕ} {used : ℕ} (b : BlockHeld h P buf used) where
  pub commands-used : block_at h + block_size P ≡ used
  commands-used = omega (arith, block-size b, length-encode_program h P)

  record-split : buf ≡ encode_program h P ++ drop used buf
  record-split = take_split used buf (encode_program h P) b.bytes

  pub commands-at : length buf ≤ 16384 → BlockAt buf (block_at h) P
  commands-at s =
      let e : encode_program h P ≡ program_front h [] (block_size P) ++ (encode_block P ++ rests blocks []) =
      ap (encode_program h) (sym (plug-nil blocks P)) ∙ encode_program-plug h [] P in
      let w : At buf 0 (encode_program h P) = record { pre = []; post = drop used buf; is = record-split; len = refl } in
      record {
        here = at_part w (program_front h [] (block_size P)) (encode_block P) (rests blocks []) (block_at h) e (omega (arith, length-program_front h [] (block_size P)));
        words = b.words;
        small = omega (arith, commands-used, b.within);
      }

-- and so do a program's
module _ {h : Header} {P : Block} {buf : List ℕ} {used : ℕ} (p : ProgramIn h P buf used) where
  pub program-used : block_at h + block_size P ≡ used
  program-used = commands-used (program-held p)

  pub program-split : buf ≡ encode_program h P ++ drop used buf
  program-split = record-split (program-held p)

  pub program-at : length buf ≤ 16384 → BlockAt buf (block_at h) P
  program-at s = commands-at (program-held p) s

-- TERMS

encode_term-headed : (h : Header) (t : Term) → encode_term h t ≡ headed term h (encode_term_record t)
unfolding encode_term encode_term_record
encode_term-headed h t = refl

-- with the header in sight
pub encode_term-header : (h : Header) (t : Term) (n : ℕ) → n ≡ length (encode_term h t) → encode_term h t ≡ header term h n ++ encode_term_record t
encode_term-header h t n e = encode_term-headed h t ∙ headed-header term h n (encode_term_record t) (omega (arith, length-encode_term h t, length-encode_term_record t))

pub length-term_front : (h : Header) (p : List Term) (n : ℕ) → length (term_front h p n) ≡ contents_at h + 4 * length p
length-term_front h p n = length_front terms term h p n

pub encode_term-plug : (h : Header) (p : List Term) (t : Term) → encode_term h (plug terms p t) ≡ term_front h p (4 + term_size t) ++ (encode_term_record t ++ rests terms p)
encode_term-plug h p t = encode_term-headed h (plug terms p t) ∙ headed-plug terms term h terms-nest p t

pub encode_term-relength : (h : Header) (up down n used : ℕ) (p : List Term) (t : Term) (l : List ℕ) → take used l ≡ term_front h p n ++ (encode_term_record t ++ rests terms p)
    → 4 + term_size t + down ≡ n + up → contents_at h + (n + around terms p) < 65536
    → relength_all (shifted up down) (contents_at h) (length p) l ≡ encode_term h (plug terms p t) ++ drop used l
encode_term-relength h up down n used p t l held e s =
    let is : l ≡ term_front h p n ++ (encode_term_record t ++ (rests terms p ++ drop used l)) = take_split used l (term_front h p n ++ (encode_term_record t ++ rests terms p)) held ∙ simp append_assoc in
    headed-relength terms term h terms-nest up down n p t l (drop used l) is e s ∙ ap (λ (y : List ℕ). y ++ drop used l) (sym (encode_term-headed h (plug terms p t)))

-- A BUFFER THAT HOLDS A TERM: it stands behind the header
module _ {S : Vars} {h : Header} {t : Term} {buf : List ℕ} {used : ℕ} (p : TermIn S h t buf used) where
  pub term-used : contents_at h + (4 + term_size t) ≡ used
  term-used = omega (arith, term-size p, length-encode_term h t)

  term-parts : buf ≡ header term h used ++ (encode_term_record t ++ drop used buf)
  term-parts = take_split used buf (header term h used ++ encode_term_record t) (p.bytes ∙ encode_term-header h t used (term-size p)) ∙ append_assoc (header term h used) (encode_term_record t) (drop used buf)

  pub term-at : length buf ≤ 16384 → TermAt buf (contents_at h) h.k t
  term-at l = record {
    here = record { pre = header term h used; post = drop used buf; is = term-parts; len = length-header term h used };
    words = term-words p;
    small = omega (arith, term-used, p.within);
  }

  -- with the place as it was read
  pub term-from : length buf ≤ 16384 → {n : ℕ} → n ≡ contents_at h → TermAt buf n h.k t
  term-from l e = term-index (term-at l) (sym e)

  -- the term replaced by one of its size, and zeros behind the record
  pub term-put : (u : Term) → term_size u ≡ term_size t → (l₁ : List ℕ) → l₁ ≡ put buf (contents_at h) (encode_term_record u)
      → put l₁ used (zeros (length l₁ - used)) ≡ padded (length buf) (encode_term h u)
  term-put u e l₁ e₁ =
      let a : List ℕ = header term h used in
      let b : List ℕ = encode_term_record u in
      let d : List ℕ = drop used buf in
      let n : ℕ = length l₁ - used in
      let la : length a ≡ contents_at h = length-header term h used in
      let lb : length b ≡ 4 + term_size u = length-encode_term_record u in
      let lt : length (encode_term_record t) ≡ 4 + term_size t = length-encode_term_record t in
      let ld : length d ≡ length buf - used = length-drop used buf in
      let is : l₁ ≡ a ++ (b ++ d) = e₁ ∙ put-re buf a (encode_term_record t) d b (contents_at h) term-parts la (omega arith) in
      let l : length l₁ ≡ length buf = ap length is ∙ simp length-append (omega (arith, term-used, p.within)) in
      let same : used ≡ length (encode_term h u) = omega (arith, term-used, length-encode_term h u) in
      let z : length buf - length (encode_term h u) ≡ n = omega arith in
      put-re l₁ (a ++ b) d [] (zeros n) used (is ∙ simp (append_assoc, append-nil)) (simp length-append (omega (arith, term-used))) (omega (arith, length-zeros n))
      ∙ sym (padded-zeros (length buf) n (encode_term h u) z ∙ ap (λ (y : List ℕ). y ++ zeros n) (encode_term-header h u used same) ∙ simp append-nil)
