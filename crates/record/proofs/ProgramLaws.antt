-- Programs: encoding and decoding are inverse, both ways.
use Prim.Native.Nat.{◌+◌, ◌<◌, ℕ}
use mathlib.Core.Path.{ap, ap₂, refl, sym, ◌∙◌, ◌≡◌}
use mathlib.Core.List.{◌++◌, List, [], append-nil}
use mathlib.Core.Option.{Option, some-injective, some}
use lib.Dec.{lit<}
use lib.ListN.{length, length-append}
use native.Mathlib.Omega.{arith}
use Rattle.buffer.specs.LittleEndian.{Bytes, le}
use Rattle.rules.specs.Syntax.{Block, Bound, Expr, assign, dec, empty, inc, lit, loop, nest, upto, upto_var, var}
use Rattle.buffer.proofs.LittleEndianLaws.{length-le}
use Rattle.record.specs.Program.{BlockWords, CommandKind, block_size, bound_from, bound_kind, bound_number, command_kind, decode_block, decode_block_part, decode_block_step, decode_command, encode_block, encode_bound, encode_expr, expr_from, expr_kind, expr_number, is_assign, is_block, is_loop, not_command, read_bound, read_expr}
use Rattle.record.specs.Reading.{at_end, bind, got, pick, sub, then, word}
use Rattle.record.specs.Record.{Split, bad, encode_record, end, part, split}
use Rattle.record.proofs.FixLaws.{fixed-keeps, fixed-level}
use Rattle.record.proofs.ReadingLaws.{at_end-inv, bind_inv, leaf-encode, leaf-found, leaf-length, length-encode_leaf, none-inv, pick_inv, sub-encode_record, sub_part, then-cong, then-inv, word-found, word-le, word-length}
use Rattle.record.proofs.RecordLaws.{length-encode_record, split-encode_record, split-end, split-length, split-parted}

-- KINDS

pub expr_from-inv : (k v : ℕ) (x : Expr) → expr_from k v ≡ some x → (k ≡ expr_kind x) × (v ≡ expr_number x)
unfolding expr_from expr_kind expr_number
expr_from-inv k v =
    let P : Expr → Type 0 = λ x. (k ≡ expr_kind x) × (v ≡ expr_number x) in
    pick_inv P k 16 _ _ (λ x h e. (cc, cc))
    (pick_inv P k 17 _ _ (λ x h e. (cc, cc)) (pick_inv P k 18 _ _ (λ x h e. (cc, cc)) (pick_inv P k 19 _ _ (λ x h e. (cc, cc)) (none-inv P))))

pub bound_from-inv : (k v : ℕ) (x : Bound) → bound_from k v ≡ some x → (k ≡ bound_kind x) × (v ≡ bound_number x)
unfolding bound_from bound_kind bound_number
bound_from-inv k v =
    let P : Bound → Type 0 = λ x. (k ≡ bound_kind x) × (v ≡ bound_number x) in
    pick_inv P k 16 _ _ (λ x h e. (cc, cc)) (pick_inv P k 17 _ _ (λ x h e. (cc, cc)) (none-inv P))

pub expr_from-at : (x : Expr) → expr_from (expr_kind x) (expr_number x) ≡ some x
unfolding expr_from expr_kind expr_number pick
expr_from-at (lit v) = refl
expr_from-at (var v) = refl
expr_from-at (inc v) = refl
expr_from-at (dec v) = refl

pub bound_from-at : (x : Bound) → bound_from (bound_kind x) (bound_number x) ≡ some x
unfolding bound_from bound_kind bound_number pick
bound_from-at (upto v) = refl
bound_from-at (upto_var v) = refl

expr_kind-low : (x : Expr) → expr_kind x < 65536
unfolding expr_kind
expr_kind-low (lit v) = lit< tt
expr_kind-low (var v) = lit< tt
expr_kind-low (inc v) = lit< tt
expr_kind-low (dec v) = lit< tt

bound_kind-low : (x : Bound) → bound_kind x < 65536
unfolding bound_kind
bound_kind-low (upto v) = lit< tt
bound_kind-low (upto_var v) = lit< tt

pub length-encode_block : (t : Block) → length (encode_block t) ≡ block_size t
unfolding encode_block block_size
length-encode_block empty = refl
length-encode_block (assign x e r) = simp (length-append, length-encode_record, length-le, length-encode_leaf, length-encode_block r) (omega arith)
length-encode_block (loop x n p r) = simp (length-append, length-encode_record, length-le, length-encode_leaf, length-encode_block p, length-encode_block r) (omega arith)
length-encode_block (nest p r) = simp (length-append, length-encode_record, length-encode_block p, length-encode_block r) (omega arith)

-- THE DECODER, by the first record

-- the step calls the decoder on shorter lists only
decode_block_step-local : (D E : List ℕ → Option Block) (bs : List ℕ) → ((xs : List ℕ) → length xs < length bs → D xs ≡ E xs) → decode_block_step D bs ≡ decode_block_step E bs
unfolding decode_block_step decode_block_part decode_command
decode_block_step-local D E bs h = go (split bs) refl
  where
    at : (k : ℕ) (b r : List ℕ) → split bs ≡ part k b r → (c : CommandKind k) → decode_command D c b r ≡ decode_command E c b r
    at k b r s is_block =
        let n = split-length bs 1 b r s in
        rw (h b (omega arith), h r (omega arith)) refl
    at k b r s is_assign =
        let n = split-length bs 2 b r s in
        rw (h r (omega arith)) refl
    at k b r s is_loop =
        let n = split-length bs 3 b r s in
        rw (h r (omega arith))
        (then-cong (word b) _ _ (λ x b₁ e₁. then-cong (read_bound b₁) _ _ (λ m b₂ e₂. then-cong (sub 1 b₂) _ _ (λ c b₃ e₃.
        let l₁ = word-length b x b₁ e₁ in
        let l₂ = leaf-length bound_kind bound_number bound_from b₁ m b₂ e₂ in
        let l₃ = split-length b₂ 1 c b₃ (sub_part 1 b₂ c b₃ e₃) in
        rw (h c (omega arith)) refl))))
    at k b r s not_command = refl

    go : (s : Split) → split bs ≡ s → decode_block_part D s ≡ decode_block_part E s
    go end q = refl
    go bad q = refl
    go (part k b r) q = at k b r q (command_kind k)

-- the decoder without its fuel: what a block's contents decode to, by the first record
pub decode_block-step : (bs : List ℕ) → decode_block bs ≡ decode_block_step decode_block bs
unfolding decode_block
decode_block-step bs = fixed-level length decode_block_step decode_block_step-local bs

-- WHAT DECODES IS THE ENCODING OF WHAT IT DECODES TO

pub record Decoded (bs : List ℕ) (t : Block) : Type 0 where
  pub whole : bs ≡ encode_block t
  pub fits : BlockWords t

step-decoded : (D : List ℕ → Option Block) → ((xs : List ℕ) (t : Block) → D xs ≡ some t → Bytes xs → Decoded xs t)
    → (bs : List ℕ) (t : Block) → decode_block_step D bs ≡ some t → Bytes bs → Decoded bs t
unfolding decode_block_step decode_block_part decode_command encode_block
step-decoded D ih bs t e hb = go (split bs) refl e
  where
    at : (k : ℕ) (b r : List ℕ) → split bs ≡ part k b r → (c : CommandKind k) → decode_command D c b r ≡ some t → Decoded bs t
    at k b r s is_block f =
        let g = split-parted bs 1 b r hb s in
        bind_inv (D b) _ t f λ p ep f₁.
        bind_inv (D r) _ t f₁ λ q eq f₂.
        let dp = ih b p ep g.inside in
        let dq = ih r q eq g.after in
        rw (← some-injective (nest p q) t f₂)
        (record { whole = g.whole ∙ ap₂ (λ (x y : List ℕ). encode_record 1 x ++ y) dp.whole dq.whole; fits = (dp.fits, dq.fits) })
    at k b r s is_assign f =
        let g = split-parted bs 2 b r hb s in
        then-inv (word b) _ t f λ x b₁ e₁ f₁.
        then-inv (read_expr b₁) _ t f₁ λ m b₂ e₂ f₂.
        at_end-inv b₂ _ t f₂ λ n f₃.
        bind_inv (D r) _ t f₃ λ q eq f₄.
        let w = word-found b x b₁ g.inside e₁ in
        let l = leaf-found expr_kind expr_number expr_from expr_from-inv b₁ m b₂ w.0.after e₂ in
        let dq = ih r q eq g.after in
        let be : b ≡ le 4 x ++ encode_expr m = w.0.whole ∙ ap (λ (y : List ℕ). le 4 x ++ y) (l.0.whole ∙ ap (λ (y : List ℕ). encode_expr m ++ y) n ∙ append-nil (encode_expr m)) in
        rw (← some-injective (assign x m q) t f₄)
        (record { whole = g.whole ∙ ap₂ (λ (y z : List ℕ). encode_record 2 y ++ z) be dq.whole; fits = (w.1, l.1, dq.fits) })
    at k b r s is_loop f =
        let g = split-parted bs 3 b r hb s in
        then-inv (word b) _ t f λ x b₁ e₁ f₁.
        then-inv (read_bound b₁) _ t f₁ λ m b₂ e₂ f₂.
        then-inv (sub 1 b₂) _ t f₂ λ c b₃ e₃ f₃.
        at_end-inv b₃ _ t f₃ λ n f₄.
        bind_inv (D c) _ t f₄ λ p ep f₅.
        bind_inv (D r) _ t f₅ λ q eq f₆.
        let w = word-found b x b₁ g.inside e₁ in
        let l = leaf-found bound_kind bound_number bound_from bound_from-inv b₁ m b₂ w.0.after e₂ in
        let u = split-parted b₂ 1 c b₃ l.0.after (sub_part 1 b₂ c b₃ e₃) in
        let dp = ih c p ep u.inside in
        let dq = ih r q eq g.after in
        let ue : b₂ ≡ encode_record 1 (encode_block p) = u.whole ∙ ap₂ (λ (y z : List ℕ). encode_record 1 y ++ z) dp.whole n ∙ append-nil (encode_record 1 (encode_block p)) in
        let be : b ≡ le 4 x ++ (encode_bound m ++ encode_record 1 (encode_block p)) = w.0.whole ∙ ap (λ (y : List ℕ). le 4 x ++ y) (l.0.whole ∙ ap (λ (y : List ℕ). encode_bound m ++ y) ue) in
        rw (← some-injective (loop x m p q) t f₆)
        (record { whole = g.whole ∙ ap₂ (λ (y z : List ℕ). encode_record 3 y ++ z) be dq.whole; fits = (w.1, l.1, dp.fits, dq.fits) })
    at k b r s not_command f = none-inv (λ x. Decoded bs x) t f

    go : (s : Split) → split bs ≡ s → decode_block_part D s ≡ some t → Decoded bs t
    go end q f = let te : t ≡ empty = cc in rw te (record { whole = split-end bs q; fits = tt })
    go bad q f = none-inv (λ x. Decoded bs x) t f
    go (part k b r) q f = at k b r q (command_kind k) f

pub decode_block-sound : (bs : List ℕ) (t : Block) → decode_block bs ≡ some t → Bytes bs → Decoded bs t
unfolding decode_block
decode_block-sound bs t e = fixed-keeps length decode_block_step (λ xs x. Bytes xs → Decoded xs x) step-decoded bs t e

-- AN ENCODING DECODES TO ITS TREE

expr-alone : (e : Expr) → expr_number e < 4294967296 → read_expr (encode_expr e) ≡ got e []
expr-alone e h = ap read_expr (sym (append-nil (encode_expr e))) ∙ leaf-encode expr_kind expr_number expr_from expr_from-at expr_kind-low e [] h

pub sub-alone : (b : List ℕ) → 4 + length b < 65536 → sub 1 (encode_record 1 b) ≡ got b []
sub-alone b h = ap (sub 1) (sym (append-nil (encode_record 1 b))) ∙ sub-encode_record 1 b [] (lit< tt) h

pub decode_block-encode : (t : Block) → BlockWords t → block_size t < 65536 → decode_block (encode_block t) ≡ some t
unfolding decode_block_step decode_block_part decode_command encode_block block_size command_kind then bind at_end split
decode_block-encode empty h n = decode_block-step (encode_block empty)
decode_block-encode (assign x e r) h n =
    let b : List ℕ = le 4 x ++ encode_expr e in
    let l : 4 + length b < 65536 = simp (length-append, length-le, length-encode_leaf) (omega arith) in
    let s : split (encode_record 2 b ++ encode_block r) ≡ part 2 b (encode_block r) = split-encode_record 2 b (encode_block r) (lit< tt) l in
    decode_block-step (encode_block (assign x e r)) ∙ rw (s, word-le x (encode_expr e) h.0, expr-alone e h.1, decode_block-encode r h.2 (omega arith)) refl
decode_block-encode (loop x m p r) h n =
    let b : List ℕ = le 4 x ++ (encode_bound m ++ encode_record 1 (encode_block p)) in
    let l : 4 + length b < 65536 = simp (length-append, length-le, length-encode_leaf, length-encode_record, length-encode_block p) (omega arith) in
    let s : split (encode_record 3 b ++ encode_block r) ≡ part 3 b (encode_block r) = split-encode_record 3 b (encode_block r) (lit< tt) l in
    let w : word b ≡ got x (encode_bound m ++ encode_record 1 (encode_block p)) = word-le x (encode_bound m ++ encode_record 1 (encode_block p)) h.0 in
    let a : read_bound (encode_bound m ++ encode_record 1 (encode_block p)) ≡ got m (encode_record 1 (encode_block p)) = leaf-encode bound_kind bound_number bound_from bound_from-at bound_kind-low m (encode_record 1 (encode_block p)) h.1 in
    let c : sub 1 (encode_record 1 (encode_block p)) ≡ got (encode_block p) [] = sub-alone (encode_block p) (simp (length-encode_block p) (omega arith)) in
    decode_block-step (encode_block (loop x m p r)) ∙ rw (s, w, a, c, decode_block-encode p h.2 (omega arith), decode_block-encode r h.3 (omega arith)) refl
decode_block-encode (nest p r) h n =
    let s : split (encode_record 1 (encode_block p) ++ encode_block r) ≡ part 1 (encode_block p) (encode_block r) = split-encode_record 1 (encode_block p) (encode_block r) (lit< tt) (simp (length-encode_block p) (omega arith)) in
    decode_block-step (encode_block (nest p r)) ∙ rw (s, decode_block-encode p h.0 (omega arith), decode_block-encode r h.1 (omega arith)) refl
