-- The assignment of a let-one and the loop of a rec: their bytes, by what is read of the term.
use Prim.Native.Nat.{◌+◌, ◌-◌, ◌≤◌, ℕ}
use mathlib.Core.Path.{ap, refl, sym, ◌∙◌, ◌≡◌}
use mathlib.Core.List.{◌++◌, List, append_assoc}
use lib.ListN.{length, length-append}
use native.Mathlib.Omega.{arith}
use Rattle.buffer.specs.LittleEndian.{le, val}
use Rattle.buffer.specs.Slice.{part}
use Rattle.place.specs.Edit.{lead, leaf_bytes}
use Rattle.place.specs.Heads.{record_head}
use Rattle.place.specs.TermView.{TermAt}
use Rattle.record.specs.Program.{block_size, bound_from, bound_kind, bound_number, encode_block, expr_from, expr_kind, expr_number}
use Rattle.record.specs.Term.{simple_size}
use Rattle.rules.specs.Syntax.{Block, Bound, Expr, assign, loop, rec}
use Rattle.rules.specs.Translation.{all, atom_of, simple_of, translate}
use Rattle.record.proofs.KindLaws.{in_program-number, number-named}
use Rattle.place.proofs.EditLaws.{length-lead}
use Rattle.place.proofs.HeadsLaws.{length-record_head}
use Rattle.place.proofs.ProgramBytesLaws.{bound_kind-range, encode_block-assign, encode_block-loop, encode_block-nest, encode_leaf-head, expr_kind-range}
use Rattle.place.proofs.SourceKindLaws.{kind-atom_of, kind-simple_of, number-atom_of, number-simple_of}
use Rattle.place.proofs.TermBytesLaws.{simple-least}
use Rattle.place.proofs.TermViewLaws.{atom-view, let_one-view, rec-view, term-room}
use Rattle.recognition.specs.Scan.{own_size}
use Rattle.readback.specs.OpenRecords.{assign_bytes, loop_bytes}

pub assign-lead : (x kind v : ℕ) (e : Expr) → kind ≡ expr_kind e → v ≡ expr_number e → lead 2 16 x kind v ≡ assign_bytes x e
unfolding assign_bytes lead leaf_bytes
assign-lead x kind v e ek ev =
    rw (ek, ev) (ap (λ (y : List ℕ). record_head 2 16 ++ (le 4 x ++ y)) (sym (encode_leaf-head expr_kind expr_number expr_from e)))

pub loop-lead : (x kind v n m : ℕ) (b : Bound) → kind ≡ bound_kind b → v ≡ bound_number b → lead 3 n x kind v ++ record_head 1 m ≡ loop_bytes x b n m
unfolding loop_bytes lead leaf_bytes
loop-lead x kind v n m b ek ev = rw (ek, ev, encode_leaf-head bound_kind bound_number bound_from b) (simp append_assoc)

pub length-assign_bytes : (x : ℕ) (e : Expr) → length (assign_bytes x e) ≡ 16
length-assign_bytes x e =
    ap length (sym (assign-lead x (expr_kind e) (expr_number e) e refl refl)) ∙ length-lead 2 16 x (expr_kind e) (expr_number e)

pub length-loop_bytes : (x : ℕ) (b : Bound) (n m : ℕ) → length (loop_bytes x b n m) ≡ 20
length-loop_bytes x b n m =
    ap length (sym (loop-lead x (bound_kind b) (bound_number b) n m b refl refl))
    ∙ simp (length-append, length-record_head, length-lead)

pub assign-bytes : (x : ℕ) (e : Expr) (r : Block) → encode_block (assign x e r) ≡ assign_bytes x e ++ encode_block r
unfolding assign_bytes
assign-bytes x e r = encode_block-assign x e r ∙ simp append_assoc

pub loop-bytes : (x : ℕ) (n : Bound) (b r : Block) → encode_block (loop x n b r) ≡ loop_bytes x n (20 + block_size b) (4 + block_size b) ++ (encode_block b ++ encode_block r)
unfolding loop_bytes
loop-bytes x n b r = encode_block-loop x n b r ∙ rw (encode_block-nest b r) (simp append_assoc)

-- A LET-ONE: its own bytes end with its atom's number

module _ {l : List ℕ} {p k : ℕ} (x : ℕ) (e : Expr) (r : Block) (h : TermAt l p k (translate k (assign x e r))) where
  pub let_one-room : (p + own_size (translate k (assign x e r)) ≤ length l) × (16 ≤ own_size (translate k (assign x e r))) × (32 ≤ val (part l (p + 10) 2)) × (val (part l (p + 10) 2) ≤ 35)
  unfolding translate own_size let_one-view
  let_one-room =
      let v = let_one-view x (simple_of e) (translate k r) h in
      (omega (arith, term-room v.last-at), omega (arith, simple-least (simple_of e)), omega (arith, v.kind-read, kind-simple_of e, expr_kind-range e), omega (arith, v.kind-read, kind-simple_of e, expr_kind-range e))

  pub let_one-bytes : (y kind v q : ℕ) → y ≡ val (part l (p + 4) 4) → kind ≡ val (part l (p + 10) 2) - 16 → q + 4 ≡ p + own_size (translate k (assign x e r)) → v ≡ val (part l q 4)
      → lead 2 16 y kind v ≡ assign_bytes x e
  unfolding translate own_size let_one-view
  let_one-bytes y kind v q ey ek eq ev =
      let w = let_one-view x (simple_of e) (translate k r) h in
      let place : q ≡ p + simple_size (simple_of e) + 4 = omega arith in
      let kind-is : kind ≡ expr_kind e = omega (arith, w.kind-read, kind-simple_of e) in
      let v-is : v ≡ expr_number e = ev ∙ ap (λ (n : ℕ). val (part l n 4)) place ∙ (atom-view w.atom).number_read ∙ number-simple_of e in
      rw (ey ∙ w.variable-read) (assign-lead x kind v e kind-is v-is)

-- A REC

-- The number of a bound's kind, whether the kind is that of an atom in the program or is named by a number.
pub ruleset bound_kinds = (in_program-number, number-named)

module _ {l : List ℕ} {p k : ℕ} (x : ℕ) (n : Bound) (b : Block) (h : TermAt l p k (rec x (atom_of n) (all k) (translate k b))) where
  pub rec-room : (p + 20 ≤ length l) × (32 ≤ val (part l (p + 10) 2)) × (val (part l (p + 10) 2) ≤ 35)
  unfolding rec-view
  rec-room =
      let v = rec-view x (atom_of n) (all k) (translate k b) h in
      (omega (arith, v.room, v.size), omega (arith, v.kind-read, kind-atom_of n, bound_kind-range n), omega (arith, v.kind-read, kind-atom_of n, bound_kind-range n))

  pub rec-bytes : (y kind v i j : ℕ) → y ≡ val (part l (p + 4) 4) → kind ≡ val (part l (p + 10) 2) - 16 → v ≡ val (part l (p + 12) 4)
      → lead 3 i y kind v ++ record_head 1 j ≡ loop_bytes x n i j
  unfolding rec-view
  rec-bytes y kind v i j ey ek ev =
      let w = rec-view x (atom_of n) (all k) (translate k b) h in
      let kind-is : kind ≡ bound_kind n = omega (arith, w.kind-read, kind-atom_of n) in
      rw (ey ∙ w.variable-read) (loop-lead x kind v i j n kind-is (ev ∙ w.number_read ∙ number-atom_of n))
