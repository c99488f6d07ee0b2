-- Tasks: the parts of a let-all, the turns of the writer's loop, and a whole program.
use Prim.Native.Nat.{◌*◌, ◌+◌, ◌-◌, ◌<◌, ◌≤◌, ℕ}
use mathlib.Core.Path.{ap, ap₂, refl, subst, sym, ◌∙◌, ◌≡◌}
use mathlib.Core.Logic.{inl, inr, ◌⊎◌}
use mathlib.Core.Bool.{Bool, false, true}
use mathlib.Core.List.{◌++◌, List}
use borrow.Author.Tests.{eq-eqb, ne_eqb}
use lib.Dec.{eqb, ltb}
use lib.ListN.{length, length-append}
use native.Mathlib.Omega.{arith}
use Rattle.buffer.specs.Slice.{put}
use Rattle.buffer.proofs.SliceLaws.{put-put, put-put-front}
use Rattle.rules.specs.Syntax.{Block}
use Rattle.record.specs.Front.{u16}
use Rattle.record.specs.Program.{block_size}
use Rattle.place.proofs.ProgramViewLaws.{block-index}
use Rattle.translator.specs.RowTranslation.{RowAt, all_bytes, row_bytes, row_size}
use Rattle.translator.specs.TranslationHeads.{let_all_head, let_all_size, let_one_head, let_one_size, opening}
use Rattle.translator.specs.TranslationTasks.{Left, PartsOf, TaskIn, cut_at, past_heads}
use Rattle.translator.specs.declared.Parts.{Parts}
use Rattle.translator.specs.declared.Task.{Task}
use Rattle.translator.proofs.RowTranslationLaws.{length-row_bytes, row_bytes-empty, row_size-least}
use Rattle.translator.proofs.RowViewLaws.{Opened, row-assign, row-four, row-none, row_open, row_room}

abbrev pub row-index : {l : List ℕ} {p p₁ q q₁ : ℕ} → RowAt l p q → p ≡ p₁ → q ≡ q₁ → RowAt l p₁ q₁
row-index {l} {p} {p₁} {q} {q₁} h e d =
    record { block = h.block; here = block-index h.here e; ends = ap (λ (y : ℕ). y + block_size h.block) (sym e) ∙ h.ends ∙ d }

-- How the code comes to the two rows of a let-all, the longer and the shorter: as the inner one and the rest, or the other way.
abbrev pub Came : Type 0 → Type 0 → Parts → Task → Task → Type 0
Came A B p longer shorter = (A × (longer ≡ p.inner) × (shorter ≡ p.rest)) ⊎ (B × (longer ≡ p.rest) × (shorter ≡ p.inner))

let_one_size-least : (b : Bool) → 16 ≤ let_one_size b
unfolding let_one_size
let_one_size-least true = omega arith
let_one_size-least false = omega arith

-- THE HEADS OF A LET-ALL, by whether its command is a loop

opening-loop : (kind : ℕ) → kind ≡ 3 → opening (eqb kind 3) ≡ 20
unfolding opening
opening-loop kind h = rw (eq-eqb kind 3 h) refl

opening-nest : (kind : ℕ) → (kind ≡ 3 → ⊥) → opening (eqb kind 3) ≡ 4
unfolding opening
opening-nest kind h = rw (ne_eqb kind 3 h) refl

pub let_all_size-loop : (k kind : ℕ) → kind ≡ 3 → let_all_size k (eqb kind 3) ≡ 24 + 8 * k
unfolding let_all_size
let_all_size-loop k kind h = rw (eq-eqb kind 3 h) refl

pub let_all_size-nest : (k kind : ℕ) → (kind ≡ 3 → ⊥) → let_all_size k (eqb kind 3) ≡ 4
unfolding let_all_size
let_all_size-nest k kind h = rw (ne_eqb kind 3 h) refl

module _ (k : ℕ) (src : List ℕ) (t : Task) (kind f s : ℕ) (read : kind ≡ u16 src (t.from + 2)) where
  past_is : f ≡ t.from + opening (eqb kind 3) → s ≡ t.start + let_all_size k (eqb kind 3)
      → ◌≡◌ {A = Task} (record { from = f; to = t.to; start = s; stop = t.stop }) (past_heads k src t)
  past_is e d = rw (← read) (ap₂ (λ (x y : ℕ). record { from = x; to = t.to; start = y; stop = t.stop }) e d)

  pub past-loop : kind ≡ 3 → f ≡ t.from + 20 → s ≡ t.start + (24 + 8 * k)
      → ◌≡◌ {A = Task} (record { from = f; to = t.to; start = s; stop = t.stop }) (past_heads k src t)
  past-loop h e d = past_is (omega (arith, opening-loop kind h)) (omega (arith, let_all_size-loop k kind h))

  pub past-nest : (kind ≡ 3 → ⊥) → f ≡ t.from + 4 → s ≡ t.start + 4
      → ◌≡◌ {A = Task} (record { from = f; to = t.to; start = s; stop = t.stop }) (past_heads k src t)
  past-nest h e d = past_is (omega (arith, opening-nest kind h)) (omega (arith, let_all_size-nest k kind h))

-- there is room for the heads
module _ {k : ℕ} {src : List ℕ} {t : Task} (h : TaskIn k src t) (some : t.from < t.to) where
  pub loop-room : u16 src (t.from + 2) ≡ 3 → (t.from + 20 ≤ length src) × (t.start + (24 + 8 * k) ≤ t.stop)
  loop-room three =
      let o = row_open h.row some k (λ e. omega arith) in (
        omega (arith, o.order, o.reach, row_room h.row, opening-loop (u16 src (t.from + 2)) three),
        omega (arith, o.size, h.region, let_all_size-loop k (u16 src (t.from + 2)) three),
      )

  pub head-room : (t.from + 4 ≤ length src) × (t.start + 4 ≤ t.stop)
  head-room = (omega (arith, row-four h.row some, row_room h.row), omega (arith, h.region, row_size-least k h.row.block))

-- THE PARTS OF A LET-ALL

module _ {k : ℕ} {src : List ℕ} {whole : Task} (h : TaskIn k src whole) (some : whole.from < whole.to) (two : u16 src (whole.from + 2) ≡ 2 → ⊥) where
  pub rows : Opened k src whole.from whole.to h.row.block
  rows = row_open h.row some k two

  pub parts : (mid : ℕ) → whole.start + let_all_size k (eqb (u16 src (whole.from + 2)) 3) + row_size k rows.inner.block ≡ mid
      → PartsOf k src whole h.row.block (cut_at (past_heads k src whole) (whole.from + u16 src whole.from) mid)
  parts mid e =
      let r = h.region in
      let s = rows.size in
      let n : row_size k h.row.block ≡ whole.stop - whole.start = omega arith in
      let m : row_size k rows.inner.block ≡ mid - (whole.start + let_all_size k (eqb (u16 src (whole.from + 2)) 3)) = omega arith in
      record {
        opens = record { task = h; some = some; start = refl; order = omega arith; fits = omega arith };
        inner = record { row = rows.inner; few = h.few; region = e };
        rest = record { row = rows.rest; few = h.few; region = omega arith };
        past = rows.past;
        next = refl;
        end = refl;
        mid = refl;
        stop = refl;
        bytes = rows.bytes ∙ ap₂ (λ (x y : ℕ). let_all_head k src whole.from x y ++ (row_bytes k rows.inner.block ++ row_bytes k rows.rest.block)) n m;
      }

  -- what the code makes of the numbers it reads: the heads passed, and the length n of the command
  module _ (inner : Task) (n : ℕ) (past : inner ≡ past_heads k src whole) (read : n ≡ u16 src whole.from) where
    abbrev pub inner-row : RowAt src inner.from (whole.from + n)
    inner-row = row-index rows.inner (sym (ap (λ (t : Task). t.from) past)) (ap (λ (y : ℕ). whole.from + y) (sym read))

    abbrev pub rest-row : RowAt src (whole.from + n) whole.to
    rest-row = row-index rows.rest (ap (λ (y : ℕ). whole.from + y) (sym read)) refl

    pub rows-order : (inner.from ≤ whole.from + n) × (whole.from + n ≤ whole.to)
    rows-order = (omega (arith, inner-row.ends), omega (arith, rest-row.ends))

    pub rows-size : inner.start + row_size k rows.inner.block + row_size k rows.rest.block ≡ whole.stop
    rows-size = omega (arith, h.region, rows.size, ap (λ (t : Task). t.start) past)

    parts_cut : (mid : ℕ) (r : Parts) → inner.start + row_size k rows.inner.block ≡ mid → r ≡ cut_at inner (whole.from + n) mid → PartsOf k src whole h.row.block r
    parts_cut mid r e d =
        let c : r ≡ cut_at (past_heads k src whole) (whole.from + u16 src whole.from) mid =
        d ∙ ap₂ (λ (t : Task) (y : ℕ). cut_at t (whole.from + y) mid) past read in
        subst (PartsOf k src whole h.row.block) (sym c) (parts mid (omega (arith, ap (λ (t : Task). t.start) past)))

    -- one of the two rows was measured
    pub parts-inner : (size : ℕ) (r : Parts) → ((g : RowAt src inner.from (whole.from + n)) → size ≡ row_size k g.block)
        → r ≡ cut_at inner (whole.from + n) (inner.start + size) → PartsOf k src whole h.row.block r
    parts-inner size r m d = parts_cut (inner.start + size) r (omega (arith, m inner-row)) d

    pub parts-rest : (size : ℕ) (r : Parts) → ((g : RowAt src (whole.from + n) whole.to) → size ≡ row_size k g.block)
        → r ≡ cut_at inner (whole.from + n) (whole.stop - size) → PartsOf k src whole h.row.block r
    parts-rest size r m d = parts_cut (whole.stop - size) r (omega (arith, rows-size, m rest-row)) d

-- THE WRITER'S LOOP

pub left-start : {k : ℕ} {src : List ℕ} {t : Task} (h : TaskIn k src t) (out : List ℕ) → t.stop ≤ length out → Left k src t h.row.block out out t
left-start h out f = record { task = h; low = omega arith; high = omega arith; kept = refl; fits = f; same = refl }

-- of a row with no command only the tuple is to be written
module _ {k : ℕ} {src : List ℕ} {t : Task} (h : TaskIn k src t) where
  pub tuple-alone : t.to ≤ t.from → (out : List ℕ) → put out t.start (all_bytes k) ≡ put out t.start (row_bytes k h.row.block)
  tuple-alone e out = ap (put out t.start) (sym (ap (row_bytes k) (row-none h.row e) ∙ row_bytes-empty k))

  pub tuple-room : t.start + (4 + 8 * k) ≤ t.stop
  tuple-room = omega (arith, row_size-least k h.row.block, h.region)

module _ {k : ℕ} {src : List ℕ} {whole : Task} {b : Block} {out₀ out : List ℕ} {left : Task} (s : Left k src whole b out₀ out left) where
  -- at the end of the row its tuple is left
  pub left_end : left.to ≤ left.from → put out left.start (all_bytes k) ≡ put out₀ whole.start (row_bytes k b)
  left_end e = tuple-alone s.task e out ∙ s.same

  pub end-room : left.start + (4 + 8 * k) ≤ length out
  end-room = omega (arith, tuple-room s.task, s.fits)

  -- a let-one's head is written
  module _ (some : left.from < left.to) (two : u16 src (left.from + 2) ≡ 2) where
    pub one-room : (left.from + 16 ≤ length src) × (16 ≤ u16 src (left.from + 10)) × (u16 src (left.from + 10) ≤ 19) × (left.start + 20 ≤ length out)
    one-room =
        let a = row-assign s.task.row some k two in
        let n = let_one_size-least (ltb (u16 src (left.from + 10)) 18) in
        (omega (arith, a.reach, row_room s.task.row), a.low, a.high, omega (arith, a.size, row_size-least k a.rest.block, s.task.region, s.fits))

    pub left_one : (out₁ : List ℕ) (from start : ℕ) → out₁ ≡ put out left.start (let_one_head src left.from (left.stop - left.start)) → length out₁ ≡ length out
        → from ≡ left.from + 16 → start ≡ left.start + let_one_size (ltb (u16 src (left.from + 10)) 18)
        → Left k src whole b out₀ out₁ (record { from = from; to = left.to; start = start; stop = left.stop })
    left_one out₁ from start e n ef es =
        let a = row-assign s.task.row some k two in
        let c : Block = s.task.row.block in
        let g = s.task.region in
        let z = a.size in
        let t = s.fits in
        let hd : List ℕ = let_one_head src left.from (row_size k c) in
        let m : left.stop - left.start ≡ row_size k c = omega arith in
        let e₁ : out₁ ≡ put out left.start hd = rw (← m) e in
        let lh : row_size k c ≡ length hd + row_size k a.rest.block = sym (length-row_bytes k c) ∙ ap length a.bytes ∙ length-append hd (row_bytes k a.rest.block) ∙ ap (λ (y : ℕ). length hd + y) (length-row_bytes k a.rest.block) in
        record {
          task = record { row = row-index a.rest (sym ef) refl; few = s.task.few; region = omega arith };
          low = omega (arith, s.low);
          high = s.high;
          kept = n ∙ s.kept;
          fits = omega arith;
          same = rw e₁ (put-put out hd (row_bytes k a.rest.block) left.start start (omega arith) (omega arith)) ∙ ap (put out left.start) (sym a.bytes) ∙ s.same;
        }

  -- a let-all's head is written, and one of its rows: the other is left
  module _ {p : Parts} (q : PartsOf k src left s.task.row.block p) (out₁ : List ℕ)
      (written : out₁ ≡ put out left.start (let_all_head k src left.from (left.stop - left.start) (p.inner.stop - p.inner.start))) (n : length out₁ ≡ length out) where
    both : put out₁ p.inner.start (row_bytes k q.inner.row.block ++ row_bytes k q.rest.row.block) ≡ put out left.start (row_bytes k s.task.row.block)
    both =
        let c : Block = s.task.row.block in
        let hd : List ℕ = let_all_head k src left.from (left.stop - left.start) (p.inner.stop - p.inner.start) in
        let m : List ℕ = row_bytes k q.inner.row.block ++ row_bytes k q.rest.row.block in
        let lh : row_size k c ≡ length hd + (row_size k q.inner.row.block + row_size k q.rest.row.block) =
        sym (length-row_bytes k c) ∙ ap length q.bytes ∙ simp (length-append, length-row_bytes) in
        let g₁ = s.task.region in
        let g₂ = q.inner.region in
        let g₃ = q.rest.region in
        let g₄ = q.mid in
        let g₅ = q.stop in
        let g₆ = s.fits in
        rw written (put-put out hd m left.start p.inner.start (omega arith) (omega arith)) ∙ ap (put out left.start) (sym q.bytes)

    left-rest : (out₂ : List ℕ) → out₂ ≡ put out₁ p.inner.start (row_bytes k q.inner.row.block) → length out₂ ≡ length out₁ → Left k src whole b out₀ out₂ p.rest
    left-rest out₂ e m =
        let g₁ = q.inner.region in
        let g₂ = q.rest.region in
        let g₃ = q.inner.row.ends in
        let g₄ = s.fits in
        record {
          task = q.rest;
          low = omega (arith, s.low, q.past, q.next);
          high = omega (arith, s.high, q.end);
          kept = m ∙ n ∙ s.kept;
          fits = omega (arith, q.stop);
          same = rw e (put-put out₁ (row_bytes k q.inner.row.block) (row_bytes k q.rest.row.block) p.inner.start p.rest.start
              (omega (arith, length-row_bytes k q.inner.row.block, q.mid)) (omega (arith, q.stop)))
              ∙ both ∙ s.same;
        }

    left-inner : (out₂ : List ℕ) → out₂ ≡ put out₁ p.rest.start (row_bytes k q.rest.row.block) → length out₂ ≡ length out₁ → Left k src whole b out₀ out₂ p.inner
    left-inner out₂ e m =
        let g₁ = q.inner.region in
        let g₂ = q.rest.region in
        let g₃ = q.rest.row.ends in
        let g₄ = s.fits in
        record {
          task = q.inner;
          low = omega (arith, s.low, q.past);
          high = omega (arith, s.high, q.end, q.next);
          kept = m ∙ n ∙ s.kept;
          fits = omega (arith, q.stop, q.mid);
          same = rw e (put-put-front out₁ (row_bytes k q.inner.row.block) (row_bytes k q.rest.row.block) p.inner.start p.rest.start
              (omega (arith, length-row_bytes k q.inner.row.block, q.mid)) (omega (arith, q.stop)))
              ∙ both ∙ s.same;
        }

    -- one of the two is written by a call, and the other is left to the loop
    module _ {A B : Type 0} {longer shorter : Task} (came : Came A B p longer shorter) where
      pub turn-task : TaskIn k src shorter
      turn-task = go came
        where
          go : Came A B p longer shorter → TaskIn k src shorter
          go (inl v) = subst (TaskIn k src) (sym v.2) q.rest
          go (inr v) = subst (TaskIn k src) (sym v.2) q.inner

      -- both are shorter than what they are of, and the call's stays within it
      pub turn-less : (shorter.to - shorter.from < left.to - left.from) × (longer.to - longer.from < left.to - left.from) × (shorter.stop ≤ left.stop)
      turn-less = go came
        where
          g₁ : p.inner.from ≤ p.inner.to
          g₁ = omega (arith, q.inner.row.ends)

          g₂ : p.rest.from ≤ p.rest.to
          g₂ = omega (arith, q.rest.row.ends)

          go : Came A B p longer shorter → (shorter.to - shorter.from < left.to - left.from) × (longer.to - longer.from < left.to - left.from) × (shorter.stop ≤ left.stop)
          go (inl v) = rw (v.1, v.2) (omega (arith, q.past, q.next, q.end, g₁, g₂), omega (arith, q.past, q.next, q.end, g₁, g₂), omega (arith, q.stop))
          go (inr v) = rw (v.1, v.2) (omega (arith, q.past, q.next, q.end, g₁, g₂), omega (arith, q.past, q.next, q.end, g₁, g₂), q.opens.fits)

      pub turn-left : (out₂ : List ℕ) → ((h : TaskIn k src shorter) → out₂ ≡ put out₁ shorter.start (row_bytes k h.row.block)) → length out₂ ≡ length out₁
          → Left k src whole b out₀ out₂ longer
      turn-left out₂ e m = go came
        where
          go : Came A B p longer shorter → Left k src whole b out₀ out₂ longer
          go (inl v) =
              let f : (h : TaskIn k src p.rest) → out₂ ≡ put out₁ p.rest.start (row_bytes k h.row.block) =
              subst (λ (t : Task). (h : TaskIn k src t) → out₂ ≡ put out₁ t.start (row_bytes k h.row.block)) v.2 e in
              subst (Left k src whole b out₀ out₂) (sym v.1) (left-inner out₂ (f q.rest) m)
          go (inr v) =
              let f : (h : TaskIn k src p.inner) → out₂ ≡ put out₁ p.inner.start (row_bytes k h.row.block) =
              subst (λ (t : Task). (h : TaskIn k src t) → out₂ ≡ put out₁ t.start (row_bytes k h.row.block)) v.2 e in
              subst (Left k src whole b out₀ out₂) (sym v.1) (left-rest out₂ (f q.inner) m)
