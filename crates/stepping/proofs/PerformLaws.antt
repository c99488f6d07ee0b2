-- Laws of a plan made: each rule's edit, with the lengths brought up to date, is the rules' step.
use Prim.Native.Nat.{ℕ, suc, ◌*◌, ◌+◌, ◌-◌, ◌<◌, ◌≤◌}
use mathlib.Core.Path.{◌≡◌, ◌∙◌, ap, refl, subst, sym}
use mathlib.Core.List.{List, ◌++◌}
use lib.ListN.{drop, length, take}
use native.Mathlib.Omega.{arith}
use Rattle.buffer.specs.Slice.{put, zeros}
use Rattle.buffer.proofs.SliceLaws.{drop-put, zeros-add}
use Rattle.record.specs.Answers.{padded}
use Rattle.record.specs.Program.{block_size, encode_block}
use Rattle.rules.specs.Reduction.{on_next}
use Rattle.rules.specs.Rules.{Step, at}
use Rattle.rules.specs.Scope.{BlockWithin, Within}
use Rattle.rules.specs.Step.{step}
use mathlib.Core.Bool.{Bool}
use Rattle.rules.specs.Store.{update}
use Rattle.record.specs.declared.Header.{Header}
use Rattle.record.specs.Header.{contents_at, ok_of}
use Rattle.rules.specs.Syntax.{Block, Bound, Config, Expr, assign, empty, lit, loop, nest, next, upto}
use Rattle.place.specs.Edit.{lead, leaf_bytes, removed, unrolled}
use Rattle.place.specs.Heads.{record_head, shifted}
use Rattle.place.specs.Nesting.{around, plug, rests}
use Rattle.place.specs.Path.{blocks, path, plug_config, spot}
use Rattle.place.specs.Whole.{block_at, program_front, relength_all}
use Rattle.record.proofs.PaddedLaws.{padded-zeros}
use Rattle.record.proofs.HeaderLaws.{length-encode_program}
use Rattle.rules.proofs.RulesLaws.{rules-step}
use Rattle.place.proofs.EditLaws.{length-lead, length-leaf_bytes, length_removed, removed-behind, removed-cut}
use Rattle.place.proofs.HeadsLaws.{length-record_head}
use Rattle.place.proofs.NestingLaws.{plug-keeps}
use Rattle.place.proofs.PathLaws.{block_size-plug, plug-some, plug-spot, step-spot}
use Rattle.place.proofs.ProgramBytesLaws.{block_size-assign, block_size-empty, block_size-loop, block_size-nest}
use Rattle.place.proofs.ProgramEditLaws.{assign-gone, assign-literal, loop-emptied, loop-unrolled, nest-gone}
use Rattle.place.proofs.UnrolledLaws.{unrolled-behind}
use Rattle.place.proofs.WholeLaws.{encode_program-relength, length-program_front}
use Rattle.plan.specs.Plan.{Moves}
use Rattle.plan.specs.declared.Plan.{Plan}
use Rattle.command.specs.Plan.{plan_of}
use Rattle.stepping.specs.Perform.{Performed, PlanFits, Ready, edited, stopped_at, unrolled_at, valued}
use Rattle.stepping.specs.State.{Stands, config_bytes}
use Rattle.stepping.proofs.PlanLaws.{Planned, planned-block, planned_bind, planned_evaluate, planned_finished, planned_leave, planned_over, planned_stop, planned_unroll}
use Rattle.stepping.proofs.StateLaws.{spot-bytes, spot-room, spot-used, stands_after, zeros-behind}

-- the step at the end of the path is the program's
on_next-next : (p : List Block) (b : Block) (s : List ℕ) → on_next (plug_config p) (next (at b s)) ≡ next (at (plug blocks p b) s)
unfolding on_next
on_next-next p b s = refl

spot-steps : (ok : ℕ → Bool) (P b : Block) (s t : List ℕ) (b₀ : Block) → spot P ≡ b₀ → 0 < block_size b₀ → Step ok (at b₀ s) (at b t) → step ok (at P s) ≡ next (at (plug blocks (path P) b) t)
spot-steps ok P b s t b₀ is h r =
    let some : 0 < block_size P = subst (λ (c : Block). 0 < block_size c) (plug-spot P) (plug-some (path P) (spot P) (subst (λ (c : Block). 0 < block_size c) (sym is) h)) in
    step-spot ok P s some ∙ ap (λ (c : Block). on_next (plug_config (path P)) (step ok (at c s))) is ∙ ap (on_next (plug_config (path P))) (rules-step ok r)
    ∙ on_next-next (path P) b t

module _ {hd : Header} {P : Block} {s : List ℕ} {l : List ℕ} {used : ℕ} (h : Stands hd (at P s) l used) where
  abbrev place : ℕ
  place = block_at hd + 4 * length (path P)

  fits-buf : used ≤ length l
  fits-buf = h.holds.within

  tail-removed : (p n : ℕ) → p + n ≤ used → drop (used - n) (removed l p n used) ≡ zeros (length l - (used - n))
  tail-removed p n order =
      let fits : used ≤ length l = h.holds.within in
      let e : n + (length l - used) ≡ length l - (used - n) = omega arith in
      removed-behind l p n used order fits ∙ ap (λ (y : List ℕ). zeros n ++ y) (zeros-behind h used (omega arith)) ∙ zeros-add n (length l - used) ∙ ap zeros e

  -- the block that the rules act on is b₀
  module _ (b₀ : Block) (is : spot P ≡ b₀) where
    front : List ℕ
    front = program_front hd (path P) (block_size b₀)

    bytes₀ : take used l ≡ front ++ (encode_block b₀ ++ rests blocks (path P))
    unfolding front
    bytes₀ = subst (λ (c : Block). take used l ≡ program_front hd (path P) (block_size c) ++ (encode_block c ++ rests blocks (path P))) is (spot-bytes h)

    used₀ : block_at hd + (block_size b₀ + around blocks (path P)) ≡ used
    used₀ = subst (λ (c : Block). block_at hd + (block_size c + around blocks (path P)) ≡ used) is (spot-used h)

    room₀ : place + block_size b₀ ≤ used
    room₀ = subst (λ (c : Block). place + block_size c ≤ used) is (spot-room h)

    front₀ : length front ≡ place
    unfolding front
    front₀ = length-program_front hd (path P) (block_size b₀)

    -- any edit m of the bytes that leaves the block b there, and zeros behind the record
    made : (b : Block) (t m : List ℕ) (up down size : ℕ) → 0 < block_size b₀ → Step (ok_of hd) (at b₀ s) (at b t)
        → block_size b + down ≡ block_size b₀ + up → used + up - down ≡ size → size ≤ length l
        → take size m ≡ front ++ (encode_block b ++ rests blocks (path P)) → drop size m ≡ zeros (length l - size)
        → Performed hd (at P s) (length l) (relength_all (shifted up down) (contents_at hd) (length (path P) + 1) m) t (used + up - down)
    unfolding front
    made b t m up down size some r sizes new fits bytes tail =
        let d : Config = at (plug blocks (path P) b) t in
        let goes : step (ok_of hd) (at P s) ≡ next d = spot-steps (ok_of hd) P b s t b₀ is some r in
        let short : used < 65536 = omega (arith, h.short, h.holds.within) in
        let lp : length (config_bytes hd d) ≡ contents_at hd + (4 + block_size (plug blocks (path P) b)) = length-encode_program hd (plug blocks (path P) b) in
        let bp : block_size (plug blocks (path P) b) ≡ block_size b + around blocks (path P) = block_size-plug (path P) b in
        let u : block_at hd + (block_size b₀ + around blocks (path P)) ≡ used = used₀ in
        let n : length (config_bytes hd d) ≡ size = omega arith in
        let one : suc (length (path P)) ≡ length (path P) + 1 = omega arith in
        let pad : padded (length l) (config_bytes hd d) ≡ config_bytes hd d ++ zeros (length l - size) =
        padded-zeros (length l) (length l - size) (config_bytes hd d) (ap (λ (y : ℕ). length l - y) n) in
        let eq : relength_all (shifted up down) (contents_at hd) (length (path P) + 1) m ≡ padded (length l) (config_bytes hd d) =
        ap (λ (y : ℕ). relength_all (shifted up down) (contents_at hd) y m) (sym one)
        ∙ encode_program-relength hd up down (block_size b₀) size (path P) b m bytes sizes (omega arith)
        ∙ ap (λ (y : List ℕ). config_bytes hd d ++ y) tail ∙ sym pad in
        let stands = stands_after d h goes (omega arith) in
        let to : length (config_bytes hd d) ≡ used + up - down = n ∙ sym new in
        record {
          after = d;
          steps = goes;
          bytes = eq;
          values = refl;
          size = sym to;
          stands = subst (λ (y : List ℕ). Stands hd d y (used + up - down)) (sym eq) (subst (λ (y : ℕ). Stands hd d (padded (length l) (config_bytes hd d)) y) to stands);
        }

  -- EACH RULE

  abbrev Made : ℕ → ℕ → List ℕ → List ℕ → Type 0
  Made up down m t = Performed hd (at P s) (length l) (relength_all (shifted up down) (contents_at hd) (length (path P) + 1) m) t (used + up - down)

  bind-made : (x v : ℕ) (e : Expr) (r : Block) → spot P ≡ assign x e r → Step (ok_of hd) (at (assign x e r) s) (at r (update s x v))
      → Made 0 16 (removed l place 16 used) (update s x v)
  bind-made x v e r is st =
      let z : block_size (assign x e r) ≡ 16 + block_size r = block_size-assign x e r in
      let order : place + 16 ≤ used = omega (arith, room₀ (assign x e r) is) in
      let m : List ℕ = removed l place 16 used in
      made (assign x e r) is r (update s x v) m 0 16 (used - 16) (omega arith) st (omega arith) (omega arith) (omega (arith, fits-buf))
      (assign-gone l m (front (assign x e r) is) (rests blocks (path P)) place used fits-buf (front₀ (assign x e r) is) x e r (bytes₀ (assign x e r) is) (removed-cut l place 16 used order fits-buf))
      (tail-removed place 16 order)

  evaluate-made : (x v : ℕ) (e : Expr) (r : Block) → spot P ≡ assign x e r → Step (ok_of hd) (at (assign x e r) s) (at (assign x (lit v) r) s)
      → Made 0 0 (put l (place + 8) (leaf_bytes 16 v)) s
  evaluate-made x v e r is st =
      let z : block_size (assign x e r) ≡ 16 + block_size r = block_size-assign x e r in
      let y : block_size (assign x (lit v) r) ≡ 16 + block_size r = block_size-assign x (lit v) r in
      let room : place + 16 ≤ used = omega (arith, room₀ (assign x e r) is) in
      made (assign x e r) is (assign x (lit v) r) s (put l (place + 8) (leaf_bytes 16 v)) 0 0 used (omega arith) st (omega arith) (omega arith) fits-buf
      (assign-literal l (front (assign x e r) is) (rests blocks (path P)) place used x v e r (bytes₀ (assign x e r) is) fits-buf (front₀ (assign x e r) is))
      (drop-put l (leaf_bytes 16 v) (place + 8) used (omega (arith, length-leaf_bytes 16 v)) (omega (arith, fits-buf)) ∙ zeros-behind h used (omega arith))

  leave-made : (r : Block) → spot P ≡ nest empty r → Step (ok_of hd) (at (nest empty r) s) (at r s) → Made 0 4 (removed l place 4 used) s
  leave-made r is st =
      let z : block_size (nest empty r) ≡ 4 + block_size r = block_size-nest empty r ∙ ap (λ (y : ℕ). 4 + y + block_size r) block_size-empty in
      let order : place + 4 ≤ used = omega (arith, room₀ (nest empty r) is) in
      let m : List ℕ = removed l place 4 used in
      made (nest empty r) is r s m 0 4 (used - 4) (omega arith) st (omega arith) (omega arith) (omega (arith, fits-buf))
      (nest-gone l m (front (nest empty r) is) (rests blocks (path P)) place used fits-buf (front₀ (nest empty r) is) r (bytes₀ (nest empty r) is) (removed-cut l place 4 used order fits-buf))
      (tail-removed place 4 order)

  stop-made : (x : ℕ) (n : Bound) (b r : Block) → spot P ≡ loop x n b r → Step (ok_of hd) (at (loop x n b r) s) (at (nest empty r) s)
      → Made 0 (16 + block_size b) (stopped_at l place (16 + block_size b) used) s
  unfolding stopped_at
  stop-made x n b r is st =
      let d : ℕ = 16 + block_size b in
      let z : block_size (loop x n b r) ≡ 20 + block_size b + block_size r = block_size-loop x n b r in
      let y : block_size (nest empty r) ≡ 4 + block_size r = block_size-nest empty r ∙ ap (λ (j : ℕ). 4 + j + block_size r) block_size-empty in
      let order : place + 4 + d ≤ used = omega (arith, room₀ (loop x n b r) is) in
      let m : List ℕ = removed l (place + 4) d used in
      let lm : length m ≡ length l = length_removed l (place + 4) d used order fits-buf in
      made (loop x n b r) is (nest empty r) s (put m place (record_head 1 4)) 0 d (used - d) (omega arith) st (omega arith) (omega arith) (omega (arith, fits-buf))
      (loop-emptied l m (front (loop x n b r) is) (rests blocks (path P)) place used fits-buf (front₀ (loop x n b r) is) x n b r d refl (bytes₀ (loop x n b r) is) (removed-cut l (place + 4) d used order fits-buf))
      (drop-put m (record_head 1 4) place (used - d) (omega (arith, length-record_head 1 4)) (omega (arith, fits-buf)) ∙ tail-removed (place + 4) d order)

  unroll-made : (x q : ℕ) (e : Bound) (b r : Block) → spot P ≡ loop x e b r → Step (ok_of hd) (at (loop x e b r) s) (at (nest (loop x (upto q) b (assign x (lit (suc q)) b)) r) s)
      → used + (20 + block_size b) ≤ length l → Made (20 + block_size b) 0 (unrolled_at l place (20 + block_size b) used x (suc q)) s
  unfolding unrolled_at
  unroll-made x q e b r is st fits =
      let n : ℕ = 20 + block_size b in
      let a : Block = assign x (lit (suc q)) b in
      let z : block_size (loop x e b r) ≡ 20 + block_size b + block_size r = block_size-loop x e b r in
      let y₁ : block_size a ≡ 16 + block_size b = block_size-assign x (lit (suc q)) b in
      let y₂ : block_size (loop x (upto q) b a) ≡ 20 + block_size b + block_size a = block_size-loop x (upto q) b a in
      let y₃ : block_size (nest (loop x (upto q) b a) r) ≡ 4 + block_size (loop x (upto q) b a) + block_size r = block_size-nest (loop x (upto q) b a) r in
      let order : place + n ≤ used = omega (arith, room₀ (loop x e b r) is) in
      let less : suc q - 1 ≡ q = omega arith in
      let m : List ℕ = unrolled l place n 20 used (record_head 1 (n + n)) (leaf_bytes 16 (suc q - 1)) (lead 2 16 x 16 (suc q)) in
      made (loop x e b r) is (nest (loop x (upto q) b a) r) s m n 0 (used + n) (omega arith) st (omega arith) (omega arith) fits
      (rw less (loop-unrolled l (front (loop x e b r) is) (rests blocks (path P)) place n used x q e b r (bytes₀ (loop x e b r) is) (front₀ (loop x e b r) is) refl fits))
      (unrolled-behind l _ _ _ place n 20 used (used + n) (length-record_head 1 (n + n)) (length-leaf_bytes 16 (suc q - 1))
      (length-lead 2 16 x 16 (suc q)) (omega arith) order (omega arith) fits
      ∙ zeros-behind h (used + n) (omega arith))

  -- ANY PLAN

  performs-by : (b : Block) (q : Plan) → Planned (ok_of hd) s (length (path P)) place b q → spot P ≡ b → Moves q.rule → used + q.up ≤ length l + q.down
      → Performed hd (at P s) (length l) (relength_all (shifted q.up q.down) (contents_at hd) (q.levels + 1) (edited q q.rule used l)) (valued q q.rule s) (used + q.up - q.down)
  unfolding edited valued
  performs-by _ _ planned_finished is moves fits = absurd moves
  performs-by _ _ planned_over is moves fits = absurd moves
  performs-by _ _ (planned_bind {x} {v} {e} {r} st) is moves fits = bind-made x v e r is st
  performs-by _ _ (planned_evaluate {x} {v} {e} {r} st) is moves fits = evaluate-made x v e r is st
  performs-by _ _ (planned_leave {r} st) is moves fits = leave-made r is st
  performs-by _ _ (planned_stop {x} {n} {b} {r} st) is moves fits = stop-made x n b r is st
  performs-by _ _ (planned_unroll {x} {q} {n} {b} {r} st) is moves fits = unroll-made x q n b r is st (omega arith)

  planned : Planned (ok_of hd) s (length (path P)) place (spot P) (plan_of (contents_at hd) (ok_of hd) P s)
  unfolding plan_of
  planned = planned-block (ok_of hd) s (length (path P)) place P

  -- the edit, the store and the lengths of the plan are the step
  performs : (q : Plan) → q ≡ plan_of (contents_at hd) (ok_of hd) P s → Moves q.rule → used + q.up ≤ length l + q.down
      → Performed hd (at P s) (length l) (relength_all (shifted q.up q.down) (contents_at hd) (q.levels + 1) (edited q q.rule used l)) (valued q q.rule s) (used + q.up - q.down)
  performs q e moves fits = performs-by (spot P) q (subst (λ (y : Plan). Planned (ok_of hd) s (length (path P)) place (spot P) y) (sym e) planned) refl moves fits

  -- as the code makes it, call by call
  pub performs-is : (contents : ℕ) → contents_at hd ≡ contents → (q : Plan) → q ≡ plan_of (contents_at hd) (ok_of hd) P s → Moves q.rule → used + q.up ≤ length l + q.down → (m₁ m₂ t : List ℕ) → m₁ ≡ edited q q.rule used l
      → m₂ ≡ relength_all (shifted q.up q.down) contents (q.levels + 1) m₁ → t ≡ valued q q.rule s → Performed hd (at P s) (length l) m₂ t (used + q.up - q.down)
  performs-is contents at-contents q e moves fits m₁ m₂ t e₁ e₂ e₃ =
      let f : ℕ → List ℕ → List ℕ = λ n. relength_all (shifted q.up q.down) n (q.levels + 1) in
      subst (λ (y : List ℕ). Performed hd (at P s) (length l) m₂ y (used + q.up - q.down)) (sym e₃)
      (subst (λ (y : List ℕ). Performed hd (at P s) (length l) y (valued q q.rule s) (used + q.up - q.down)) (sym (e₂ ∙ ap (f contents) e₁ ∙ ap (λ (n : ℕ). f n (edited q q.rule used l)) (sym at-contents))) (performs q e moves fits))

  -- WHAT THE CODE ASKS of the numbers

  within-spot : (b : Block) → spot P ≡ b → BlockWithin hd.k b
  within-spot b is =
      subst (λ (c : Block). BlockWithin hd.k c) is
      (plug-keeps blocks (λ (c : Block). BlockWithin hd.k c) (λ t r w. w.0) (path P) (spot P) (subst (λ (c : Block). BlockWithin hd.k c) (sym (plug-spot P)) h.holds.is_program.variables))

  asks-by : (b : Block) (q : Plan) → Planned (ok_of hd) s (length (path P)) place b q → spot P ≡ b → used + q.up ≤ length l + q.down → PlanFits (contents_at hd) q used (length l) (length s)
  asks-by _ _ planned_finished is fits = record { edit = tt; value = tt; levels = omega (arith, spot-room h, fits-buf); up = omega arith; down = omega arith }
  asks-by _ _ planned_over is fits = record { edit = tt; value = tt; levels = omega (arith, spot-room h, fits-buf); up = omega arith; down = omega arith }
  asks-by _ _ (planned_bind {x} {v} {e} {r} st) is fits =
      let z : block_size (assign x e r) ≡ 16 + block_size r = block_size-assign x e r in
      let w : Within hd.k x = (within-spot (assign x e r) is).0 in
      let n : length s ≡ hd.k = h.count in
      let room : place + block_size (assign x e r) ≤ used = room₀ (assign x e r) is in
      record { edit = omega arith; value = (w.0, omega (arith, w.1)); levels = omega (arith, fits-buf); up = omega arith; down = omega arith }
  asks-by _ _ (planned_evaluate {x} {v} {e} {r} st) is fits =
      let z : block_size (assign x e r) ≡ 16 + block_size r = block_size-assign x e r in
      let room : place + block_size (assign x e r) ≤ used = room₀ (assign x e r) is in
      record { edit = omega arith; value = tt; levels = omega (arith, fits-buf); up = omega arith; down = omega arith }
  asks-by _ _ (planned_leave {r} st) is fits =
      let z : block_size (nest empty r) ≡ 4 + block_size empty + block_size r = block_size-nest empty r in
      let room : place + block_size (nest empty r) ≤ used = room₀ (nest empty r) is in
      record { edit = omega arith; value = tt; levels = omega (arith, fits-buf); up = omega arith; down = omega arith }
  asks-by _ _ (planned_stop {x} {n} {b} {r} st) is fits =
      let z : block_size (loop x n b r) ≡ 20 + block_size b + block_size r = block_size-loop x n b r in
      let room : place + block_size (loop x n b r) ≤ used = room₀ (loop x n b r) is in
      record { edit = omega arith; value = tt; levels = omega (arith, fits-buf); up = omega arith; down = omega arith }
  asks-by _ _ (planned_unroll {x} {q} {n} {b} {r} st) is fits =
      let z : block_size (loop x n b r) ≡ 20 + block_size b + block_size r = block_size-loop x n b r in
      let room : place + block_size (loop x n b r) ≤ used = room₀ (loop x n b r) is in
      let small : length l ≤ 16384 = h.short in
      record { edit = (omega arith, omega arith, omega arith, omega arith); value = tt; levels = omega (arith, fits-buf); up = omega arith; down = omega arith }

  plan-fits : (q : Plan) → q ≡ plan_of (contents_at hd) (ok_of hd) P s → used + q.up ≤ length l + q.down → PlanFits (contents_at hd) q used (length l) (length s)
  plan-fits q e fits = asks-by (spot P) q (subst (λ (y : Plan). Planned (ok_of hd) s (length (path P)) place (spot P) y) (sym e) planned) refl fits

  -- BEFORE THE ROOM IS KNOWN: what comes and what goes is no longer than the record

  sums_by : (b : Block) (q : Plan) → Planned (ok_of hd) s (length (path P)) place b q → spot P ≡ b → (q.up ≤ used) × (q.down ≤ used)
  sums_by _ _ planned_finished is = (omega arith, omega arith)
  sums_by _ _ planned_over is = (omega arith, omega arith)
  sums_by _ _ (planned_bind {x} {v} {e} {r} st) is =
      let z : block_size (assign x e r) ≡ 16 + block_size r = block_size-assign x e r in
      let room : place + block_size (assign x e r) ≤ used = room₀ (assign x e r) is in
      (omega arith, omega arith)
  sums_by _ _ (planned_evaluate {x} {v} {e} {r} st) is = (omega arith, omega arith)
  sums_by _ _ (planned_leave {r} st) is =
      let z : block_size (nest empty r) ≡ 4 + block_size empty + block_size r = block_size-nest empty r in
      let room : place + block_size (nest empty r) ≤ used = room₀ (nest empty r) is in
      (omega arith, omega arith)
  sums_by _ _ (planned_stop {x} {n} {b} {r} st) is =
      let z : block_size (loop x n b r) ≡ 20 + block_size b + block_size r = block_size-loop x n b r in
      let room : place + block_size (loop x n b r) ≤ used = room₀ (loop x n b r) is in
      (omega arith, omega arith)
  sums_by _ _ (planned_unroll {x} {q} {n} {b} {r} st) is =
      let z : block_size (loop x n b r) ≡ 20 + block_size b + block_size r = block_size-loop x n b r in
      let room : place + block_size (loop x n b r) ≤ used = room₀ (loop x n b r) is in
      (omega arith, omega arith)

  pub plan-sums : (q : Plan) → q ≡ plan_of (contents_at hd) (ok_of hd) P s → (q.up ≤ used) × (q.down ≤ used)
  plan-sums q e = sums_by (spot P) q (subst (λ (y : Plan). Planned (ok_of hd) s (length (path P)) place (spot P) y) (sym e) planned) refl

pub ready-fits : {hd : Header} {P : Block} {s : List ℕ} {l : List ℕ} {used : ℕ} (q : Plan) → Ready hd P l used s q → PlanFits (contents_at hd) q used (length l) (length s)
ready-fits q h = plan-fits h.stands q h.plans h.fits
