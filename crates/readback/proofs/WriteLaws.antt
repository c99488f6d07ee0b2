-- The loop that writes the commands: what it meets, by the kinds read, and what is left to do after each turn; and the whole
-- record.
use Prim.Native.Nat.{◌+◌, ◌-◌, ◌<◌, ◌≤◌, ℕ}
use mathlib.Core.Path.{ap, refl, subst, sym, ◌∙◌, ◌≡◌}
use mathlib.Core.Bool.{false, true}
use mathlib.Core.Option.{some-injective, some}
use mathlib.Core.List.{◌++◌, List}
use lib.Dec.{eqb, lit<}
use lib.ListN.{length, length-append}
use native.Mathlib.Omega.{arith}
use Rattle.buffer.specs.LittleEndian.{val}
use Rattle.buffer.specs.Slice.{part, put, zeros}
use Rattle.place.specs.Heads.{record_head}
use Rattle.place.specs.TermView.{TermAt}
use Rattle.place.specs.Whole.{header}
use Rattle.record.specs.Answers.{padded}
use Rattle.record.specs.declared.Header.{Header}
use Rattle.record.specs.Header.{contents_at, encode_program, program}
use Rattle.record.specs.Holding.{TermIn}
use Rattle.record.specs.Program.{block_size, encode_block}
use Rattle.rules.specs.FreeVariables.{all_vars}
use Rattle.rules.specs.ReadBack.{read_back}
use Rattle.rules.specs.Syntax.{Block, Bound, Expr, Term, assign, empty, loop, nest, rec}
use Rattle.rules.specs.Translation.{all, atom_of, translate}
use Rattle.buffer.proofs.SliceLaws.{put-put-front}
use Rattle.place.proofs.HeadsLaws.{length-record_head}
use Rattle.place.proofs.ProgramBytesLaws.{block_size-assign, block_size-loop, block_size-nest, encode_block-nest}
use Rattle.place.proofs.WholeLaws.{encode_program-header, length-header}
use Rattle.record.proofs.HeaderLaws.{length-encode_program}
use Rattle.record.proofs.HoldingLaws.{term_is}
use Rattle.record.proofs.PaddedLaws.{written-padded}
use Rattle.record.proofs.ProgramLaws.{length-encode_block}
use Rattle.rules.proofs.ReadBackLaws.{translate-read_back}
use Rattle.readback.specs.OpenRecords.{BlockFits, Linked, OpenRecords, all_ended, assign_bytes, closed, end_of, finish, loop_bytes, opened, terms_of}
use Rattle.recognition.specs.Scan.{TermsUpTo, own_size}
use Rattle.recognition.proofs.ScanLaws.{kind-room, own-some, terms-first, terms-none, terms-order, terms-record, terms-some}
use Rattle.readback.proofs.CommandLaws.{first-room}
use Rattle.readback.proofs.OpenRecordsLaws.{closes-loop, closes-nest, end-close, end_more, end-open, end-room, finish-close, finish-more, finish-open, linked-behind, linked-close, linked-loop, linked-nest, opening-loop, opening-least, put-again}
use Rattle.readback.proofs.PieceLaws.{assign-bytes, length-assign_bytes, length-loop_bytes, loop-bytes}
use Rattle.readback.proofs.RowLaws.{block-end, row-assign, row-empty, row-loop, row-nest}

-- When the loop comes to index `at` of the source l and writes at index o of the output b, and the innermost head is at index p,
-- then ending all that is open gives the list m, and index e.
pub record ToWrite (l : List ℕ) (k to at : ℕ) (b : List ℕ) (o p : ℕ) (m : List ℕ) (e : ℕ) : Type 0 where
  pub opens : OpenRecords
  pub row : TermsUpTo l k to at (terms_of k opens)
  pub linked : Linked b o p opens
  pub same : finish b o opens ≡ m
  pub ends : end_of o opens ≡ e
  pub fits : e ≤ length b
  pub small : e < 65536

-- WHAT A TURN DOES

-- The iterator steps from index p over the term there and stands at index q.
abbrev pub Steps : List ℕ → ℕ → ℕ → ℕ → Type 0
Steps l k p q = (u : Term) → TermAt l p k u → q ≡ p + own_size u

-- A tuple ends the innermost record.
pub record Closes (l : List ℕ) (k to at : ℕ) (b : List ℕ) (o p : ℕ) (m : List ℕ) (e : ℕ) : Type 0 where
  pub room : (p + 4 ≤ o) × (val (part b (p + 2) 2) ≡ 3 → p + 20 ≤ o) × (o ≤ length b)
  pub next : (b₁ : List ℕ) (q a : ℕ) → b₁ ≡ closed (eqb (val (part b (p + 2) 2)) 3) b p o → q ≡ val (part b p 2) → length b₁ ≡ length b → Steps l k at a → ToWrite l k to a b₁ o q m e

-- A let-one is an assignment.
pub record Assigns (l : List ℕ) (k to at : ℕ) (b : List ℕ) (o p : ℕ) (m : List ℕ) (e : ℕ) : Type 0 where
  pub variable : ℕ
  pub expr : Expr
  pub rest : Block
  pub here : TermAt l at k (translate k (assign variable expr rest))
  pub room : o + 16 ≤ length b
  pub next : (b₁ : List ℕ) (a : ℕ) → b₁ ≡ put b o (assign_bytes variable expr) → length b₁ ≡ length b → Steps l k at a → ToWrite l k to a b₁ (o + 16) p m e

-- A let-all of a rec begins a loop.
pub record Loops (l : List ℕ) (k to at : ℕ) (b : List ℕ) (o p : ℕ) (m : List ℕ) (e : ℕ) : Type 0 where
  pub variable : ℕ
  pub bound : Bound
  pub body : Block
  pub here : TermAt l (at + 4) k (rec variable (atom_of bound) (all k) (translate k body))
  pub room : o + 20 ≤ length b
  pub inside : (a : ℕ) → Steps l k at a → (a ≡ at + 4) × (a < to)
  pub further : (a c : ℕ) → Steps l k at a → Steps l k a c → at < c
  pub next : (b₁ : List ℕ) (a c : ℕ) → b₁ ≡ put b o (loop_bytes variable bound p 0) → length b₁ ≡ length b → Steps l k at a → Steps l k a c → ToWrite l k to c b₁ (o + 20) o m e

-- Every other let-all begins a block.
pub record Nests (l : List ℕ) (k to at : ℕ) (b : List ℕ) (o p : ℕ) (m : List ℕ) (e : ℕ) : Type 0 where
  pub room : o + 4 ≤ length b
  pub next : (b₁ : List ℕ) (a : ℕ) → b₁ ≡ put b o (record_head 1 p) → length b₁ ≡ length b → Steps l k at a → ToWrite l k to a b₁ (o + 4) o m e

pub write-to : {l : List ℕ} {k to at q : ℕ} {b : List ℕ} {o p : ℕ} {m : List ℕ} {e : ℕ} → q ≡ at → ToWrite l k to at b o p m e → ToWrite l k to q b o p m e
write-to d s = rw d s

module _ {l : List ℕ} {k to at : ℕ} {b : List ℕ} {o p : ℕ} {m : List ℕ} {e : ℕ} (s : ToWrite l k to at b o p m e) where
  pub write-end : to ≤ at → (b ≡ m) × (o ≡ e)
  unfolding terms_of finish end_of
  write-end n = go s.opens s.row s.same s.ends
    where
      go : (ps : OpenRecords) → TermsUpTo l k to at (terms_of k ps) → finish b o ps ≡ m → end_of o ps ≡ e → (b ≡ m) × (o ≡ e)
      go all_ended row same ends = (same, ends)
      go (opened h f c ps) row same ends = absurd (omega (arith, terms-some row))

  -- by what is still to come in the innermost record
  abbrev Cases : Type 0 → Type 0
  Cases R = (ps : OpenRecords) → TermsUpTo l k to at (terms_of k ps) → Linked b o p ps → finish b o ps ≡ m → end_of o ps ≡ e → R

  module _ (some : at < to) where
    -- the kinds are read inside the source
    pub write-room : at + 4 ≤ length l
    write-room = kind-room (terms-first s.row some).here

    pub write-close : val (part l (at + 2) 2) ≡ 36 → Closes l k to at b o p m e
    unfolding terms_of
    write-close kind = go s.opens s.row s.linked s.same s.ends
      where
        go : Cases (Closes l k to at b o p m e)
        go all_ended row linked same ends = absurd (omega (arith, terms-none row))
        go (opened h f empty ps) row linked same ends =
            let r = row-empty row in
            let low = end-room o h f empty ps in
            let within = s.fits in
            let f-is : eqb (val (part b (p + 2) 2)) 3 ≡ f = rw linked.0 linked.2 in
            record {
              room = (omega (arith, linked.0, linked.1, opening-least f), (λ z. omega (arith, linked.0, linked.1, opening-loop (val (part b (p + 2) 2)) f f-is z)), omega arith);
              next = λ b₁ q a eb eq n₁ ea. record {
                opens = ps;
                row = rw (ea (translate k empty) r.1) r.2;
                linked = rw (eb, eq, f-is, linked.0) (linked-close ps b o h f linked.1 (omega arith) linked.3);
                same = rw (eb, f-is, linked.0) (sym (finish-close b o h f ps) ∙ same);
                ends = sym (end-close o h f ps) ∙ ends;
                fits = omega arith;
                small = s.small;
              };
            }
        go (opened h f (assign x c r) ps) row linked same ends = absurd (omega (arith, (row-assign x c r row).0))
        go (opened h f (loop x n c r) ps) row linked same ends = absurd (omega (arith, (row-loop x n c r row).0))
        go (opened h f (nest c r) ps) row linked same ends = absurd (omega (arith, (row-nest c r row).0))

    pub write-assign : val (part l (at + 2) 2) ≡ 37 → Assigns l k to at b o p m e
    unfolding terms_of
    write-assign kind = go s.opens s.row s.linked s.same s.ends
      where
        go : Cases (Assigns l k to at b o p m e)
        go all_ended row linked same ends = absurd (omega (arith, terms-none row))
        go (opened h f (assign x c r) ps) row linked same ends =
            let t = row-assign x c r row in
            let low = end-room o h f (assign x c r) ps in
            let within = s.fits in
            let size = block_size-assign x c r in
            let n : o + length (assign_bytes x c) ≡ o + 16 = ap (λ (y : ℕ). o + y) (length-assign_bytes x c) in
            record {
              variable = x;
              expr = c;
              rest = r;
              here = t.1;
              room = omega arith;
              next = λ b₁ a eb n₁ ea. record {
                opens = opened h f r ps;
                row = rw (ea (translate k (assign x c r)) t.1) t.2;
                linked = subst (λ (y : List ℕ). Linked y (o + 16) p (opened h f r ps)) (sym eb) (linked-behind (opened h f r ps) b (assign_bytes x c) o (o + 16) p (omega arith) (omega arith) linked);
                same = rw eb (sym (finish-more b (assign_bytes x c) o (o + 16) h f (assign x c r) r ps (assign-bytes x c r) n (omega arith)) ∙ same);
                ends = sym (end_more o 16 h f (assign x c r) r ps size) ∙ ends;
                fits = omega arith;
                small = s.small;
              };
            }
        go (opened h f empty ps) row linked same ends = absurd (omega (arith, (row-empty row).0))
        go (opened h f (loop x n c r) ps) row linked same ends = absurd (omega (arith, (row-loop x n c r row).0))
        go (opened h f (nest c r) ps) row linked same ends = absurd (omega (arith, (row-nest c r row).0))

    -- what is neither a tuple nor a let-one is a let-all: a translation has no rec but as a let-all's first term
    module _ (no-tuple : val (part l (at + 2) 2) ≡ 36 → ⊥) (no_one : val (part l (at + 2) 2) ≡ 37 → ⊥) where
      pub write-first : at + 8 ≤ length l
      unfolding terms_of
      write-first = go s.opens s.row
        where
          go : (ps : OpenRecords) → TermsUpTo l k to at (terms_of k ps) → at + 8 ≤ length l
          go all_ended row = absurd (omega (arith, terms-none row))
          go (opened h f empty ps) row = absurd (no-tuple (row-empty row).0)
          go (opened h f (assign x c r) ps) row = absurd (no_one (row-assign x c r row).0)
          go (opened h f (loop x n c r) ps) row = first-room (terms-first row some).here (row-loop x n c r row).0
          go (opened h f (nest c r) ps) row = first-room (terms-first row some).here (row-nest c r row).0

      pub write-loop : val (part l (at + 6) 2) ≡ 39 → Loops l k to at b o p m e
      unfolding terms_of
      write-loop first = go s.opens s.row s.linked s.same s.ends
        where
          go : Cases (Loops l k to at b o p m e)
          go all_ended row linked same ends = absurd (omega (arith, terms-none row))
          go (opened h f (loop x n c r) ps) row linked same ends =
              let t = row-loop x n c r row in
              let low = end-room o h f (loop x n c r) ps in
              let within = s.fits in
              let below = s.small in
              let size = block_size-loop x n c r in
              let closes = closes-loop b (encode_block c) o (o + 20) (o + 20 + block_size c) x p 0 (block_size c) n (sym (length-encode_block c)) refl refl (omega arith) in
              record {
                variable = x;
                bound = n;
                body = c;
                here = t.4;
                room = omega arith;
                inside = λ a ea. let four : a ≡ at + 4 = ea (translate k (loop x n c r)) t.2 ∙ ap (λ (y : ℕ). at + y) t.3 in (four, omega (arith, own-some (rec x (atom_of n) (all k) (translate k c)), terms-order t.5));
                further = λ a d ea ed.
                    let four : a ≡ at + 4 = ea (translate k (loop x n c r)) t.2 ∙ ap (λ (y : ℕ). at + y) t.3 in
                    omega (arith, ed (rec x (atom_of n) (all k) (translate k c)) (rw four t.4));
                next = λ b₁ a d eb n₁ ea ed.
                    let four : a ≡ at + 4 = ea (translate k (loop x n c r)) t.2 ∙ ap (λ (y : ℕ). at + y) t.3 in
                    record {
                      opens = opened o true c (opened h f r ps);
                      row = rw (ed (rec x (atom_of n) (all k) (translate k c)) (rw four t.4), four) t.5;
                      linked = subst (λ (y : List ℕ). Linked y (o + 20) o (opened o true c (opened h f r ps))) (sym eb) (linked-loop (opened h f r ps) b o p x n c (omega arith) (omega (arith, linked.0, linked.1)) linked);
                      same = rw eb (sym (finish-open b (loop_bytes x n (20 + block_size c) (4 + block_size c)) (loop_bytes x n p 0) o (o + 20) h f true (loop x n c r) c r ps (loop-bytes x n c r) closes (ap (λ (y : ℕ). o + y) (length-loop_bytes x n (20 + block_size c) (4 + block_size c))) (omega arith)) ∙ same);
                      ends = sym (end-open o 20 h f true (loop x n c r) c r ps size) ∙ ends;
                      fits = omega arith;
                      small = s.small;
                    };
              }
          go (opened h f empty ps) row linked same ends = absurd (no-tuple (row-empty row).0)
          go (opened h f (assign x c r) ps) row linked same ends = absurd (no_one (row-assign x c r row).0)
          go (opened h f (nest c r) ps) row linked same ends = absurd ((row-nest c r row).1 first)

      pub write-nest : (val (part l (at + 6) 2) ≡ 39 → ⊥) → Nests l k to at b o p m e
      unfolding terms_of
      write-nest first = go s.opens s.row s.linked s.same s.ends
        where
          go : Cases (Nests l k to at b o p m e)
          go all_ended row linked same ends = absurd (omega (arith, terms-none row))
          go (opened h f (nest c r) ps) row linked same ends =
              let t = row-nest c r row in
              let low = end-room o h f (nest c r) ps in
              let within = s.fits in
              let below = s.small in
              let size = block_size-nest c r in
              let closes = closes-nest b (encode_block c) o (o + 4) (o + 4 + block_size c) p (block_size c) (sym (length-encode_block c)) refl refl (omega arith) in
              record {
                room = omega arith;
                next = λ b₁ a eb n₁ ea. record {
                  opens = opened o false c (opened h f r ps);
                  row = rw (ea (translate k (nest c r)) t.2) t.3;
                  linked = subst (λ (y : List ℕ). Linked y (o + 4) o (opened o false c (opened h f r ps))) (sym eb) (linked-nest (opened h f r ps) b o p c (omega arith) (omega (arith, linked.0, linked.1)) linked);
                  same = rw eb (sym (finish-open b (record_head 1 (4 + block_size c)) (record_head 1 p) o (o + 4) h f false (nest c r) c r ps (encode_block-nest c r) closes (ap (λ (y : ℕ). o + y) (length-record_head 1 (4 + block_size c))) (omega arith)) ∙ same);
                  ends = sym (end-open o 4 h f false (nest c r) c r ps size) ∙ ends;
                  fits = omega arith;
                  small = s.small;
                };
              }
          go (opened h f empty ps) row linked same ends = absurd (no-tuple (row-empty row).0)
          go (opened h f (assign x c r) ps) row linked same ends = absurd (no_one (row-assign x c r row).0)
          go (opened h f (loop x n c r) ps) row linked same ends = absurd (first (row-loop x n c r row).1)

-- the head is stored once more
pub write_again : (b : Block) (out₁ out : List ℕ) (p : ℕ) → out₁ ≡ put out p (record_head 1 0) → p ≤ length out
    → put out₁ p (record_head 1 (4 + block_size b) ++ encode_block b) ≡ put out p (record_head 1 (4 + block_size b) ++ encode_block b)
write_again b out₁ out p e fits =
    let c : List ℕ = record_head 1 (4 + block_size b) ++ encode_block b in
    let n : length (record_head 1 0) ≤ length c = omega (arith, length-append (record_head 1 (4 + block_size b)) (encode_block b), length-record_head 1 (4 + block_size b), length-record_head 1 0) in
    ap (λ (y : List ℕ). put y p c) e ∙ put-again out (record_head 1 0) c p n fits

pub fits-same : {src : List ℕ} {p to k : ℕ} {out out₁ : List ℕ} {b : Block} → BlockFits src p to k out b → length out₁ ≡ length out → BlockFits src p to k out₁ b
fits-same h n = record { here = h.here; room = omega (arith, h.room) }

-- the loop begins with the block's head stored
pub write-start : {src : List ℕ} {p to k : ℕ} {out₁ : List ℕ} (out : List ℕ) (b : Block) → BlockFits src p to k out₁ b → to < 65536 → out₁ ≡ put out p (record_head 1 0) → length out₁ ≡ length out
    → ToWrite src k to p out₁ (p + 4) p (put out₁ p (record_head 1 (4 + block_size b) ++ encode_block b)) (p + (4 + block_size b))
unfolding terms_of finish end_of
write-start {p = p} {out₁ = out₁} out b h small e n =
    let fits = h.room in
    record {
      opens = opened p false b all_ended;
      row = h.here;
      linked = subst (λ (y : List ℕ). Linked y (p + 4) p (opened p false b all_ended)) (sym e) (linked-nest all_ended out p 0 b (omega arith) (lit< tt) tt);
      same = ap (λ (y : List ℕ). closed false (put y (p + 4) (encode_block b)) p (p + 4 + block_size b)) e
          ∙ closes-nest out (encode_block b) p (p + 4) (p + 4 + block_size b) 0 (block_size b) (sym (length-encode_block b)) refl refl (omega arith)
          ∙ sym (write_again b out₁ out p e (omega arith));
      ends = omega arith;
      fits = h.room;
      small = omega (arith, block-end b h.here);
    }

-- THE WHOLE RECORD: the block, the header before it, and zeros behind it

pub fits-source : {h : Header} {t : Term} {src : List ℕ} {used : ℕ} (b : Block) (out : List ℕ) (start : ℕ) → TermIn all_vars h t src used → read_back h.k t ≡ some b
    → length src ≤ 16384 → start ≡ contents_at h → length (encode_program h b) ≤ length out → BlockFits src start used h.k out b
fits-source {h} {t} b out start p e few es room =
    record { here = rw (translate-read_back h.k t b e) (terms-record p few es); room = omega (arith, length-encode_program h b) }

-- a buffer holds one term
pub source-same : {h : Header} {t u : Term} {src : List ℕ} {used : ℕ} (b c : Block) → TermIn all_vars h t src used → TermIn all_vars h u src used → length src ≤ 16384
    → read_back h.k t ≡ some b → read_back h.k u ≡ some c → b ≡ c
source-same {h} {t} {u} b c p q few eb ec =
    let same : t ≡ u = sym (term_is p few) ∙ term_is q few in
    some-injective b c (sym eb ∙ ap (read_back h.k) same ∙ ec)

pub write-program : (h : Header) (b : Block) (out out₁ out₂ out₃ : List ℕ) (n start room : ℕ)
    → start ≡ contents_at h → n ≡ start + (4 + block_size b) → n ≤ length out → room ≡ length out
    → out₁ ≡ put out start (record_head 1 (4 + block_size b) ++ encode_block b) → out₂ ≡ put out₁ 0 (header program h n) → out₃ ≡ put out₂ n (zeros (room - n))
    → out₃ ≡ padded (length out) (encode_program h b)
write-program h b out out₁ out₂ out₃ n start room es en fits er e₁ e₂ e₃ =
    let c : List ℕ = record_head 1 (4 + block_size b) ++ encode_block b in
    let size : n ≡ length (encode_program h b) = omega (arith, length-encode_program h b) in
    let front : 0 + length (header program h n) ≡ start = omega (arith, length-header program h n) in
    written-padded out out₂ out₃ (encode_program h b) n (sym size) fits
    (e₂ ∙ ap (λ (y : List ℕ). put y 0 (header program h n)) e₁ ∙ put-put-front out (header program h n) c 0 start front (omega arith) ∙ ap (put out 0) (sym (encode_program-header h b n size)))
    (e₃ ∙ ap (λ (y : ℕ). put out₂ n (zeros (y - n))) er)
