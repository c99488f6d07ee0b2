-- What stands at a place, as the record layer reads it: the bytes of a record, its kind, and where the next one starts.
use Prim.Native.Nat.{◌+◌, ◌-◌, ℕ, ◌≤◌}
use mathlib.Core.Path.{◌≡◌, ap, refl, sym, ◌∙◌}
use mathlib.Core.Bool.{Bool, false, true}
use mathlib.Core.List.{List, []}
use mathlib.Core.Option.{Option, none, some}
use borrow.Author.Tests.{eqb-false, eqb-true}
use lib.Dec.{eqb}
use lib.ListN.{drop, length, length-drop, take}
use lib.Seq.{drop-drop, length-take-le, take_all}
use native.Mathlib.Omega.{arith}
use Rattle.buffer.specs.LittleEndian.{val}
use Rattle.buffer.specs.Slice.{part}
use Rattle.record.specs.Alone.{record_kind}
use Rattle.record.proofs.AloneLaws.{record_kind-none, record_kind-read, slice-take}
use Rattle.record.specs.declared.kind.Kind.{Kind}
use Rattle.record.specs.Kind.{kind_named, kind_number}
use Rattle.record.proofs.KindLaws.{Known, named-number, not-number}
use Rattle.reader.specs.Head.{head_at, kind_at, length_at, length_of, next_at}
use Rattle.reader.specs.declared.Head.{Head}
use Rattle.reader.specs.declared.Head.TheVariants.{End, Record, Short}
use Rattle.reader.proofs.HeadLaws.{end-tells, head-record, next-end, next-record, next-short, not-record, record-tells, short-tells}
use Rattle.term_checker.specs.RecordAt.{record_at}

-- no bytes are no record
pub empty-kind : record_kind [] ≡ 0
empty-kind = record_kind-none [] (λ four whole. omega arith)

module _ (l : List ℕ) (at : ℕ) where
  -- the length and the kind that the next m bytes say, by themselves
  pub part_length : (m : ℕ) → 2 ≤ m → val (part (take m (drop at l)) 0 2) ≡ length_at l at
  unfolding part
  part_length m h = ap val (slice-take m 0 2 (drop at l) h)

  part-kind : (m : ℕ) → 4 ≤ m → val (part (take m (drop at l)) 2 2) ≡ kind_at l at
  unfolding part
  part-kind m h = ap val (slice-take m 2 2 (drop at l) h ∙ ap (take 2) (drop-drop 2 at l))

  -- A WHOLE RECORD

  module _ (n k : ℕ) (e : head_at l at ≡ Record n k) where
    stands-bytes : record_at l at ≡ take n (drop at l)
    unfolding record_at length_of
    stands-bytes = ap (λ (h : Head). take (length_of h) (drop at l)) e

    front_length : length (take n (drop at l)) ≡ n
    front_length =
        let w = record-tells l at n k e in
        length-take-le n (drop at l) (omega (arith, w.least, w.inside, length-drop at l))

    pub stands-length : length (record_at l at) ≡ n
    stands-length = ap length stands-bytes ∙ front_length

    pub stands-kind : record_kind (record_at l at) ≡ k
    stands-kind =
        let w = record-tells l at n k e in
        let least = w.least in
        ap record_kind stands-bytes
        ∙ record_kind-read (take n (drop at l)) (omega (arith, front_length)) (part_length n (omega arith) ∙ w.is-length ∙ sym front_length)
        ∙ part-kind n least
        ∙ w.is-kind

    -- the value or variable number behind length and kind
    pub stands-number : 8 ≤ n → val (part l (at + 4) 4) ≡ val (part (record_at l at) 4 4)
    unfolding part
    stands-number h =
        ap val (ap (take 4) (sym (drop-drop 4 at l)) ∙ sym (slice-take n 4 4 (drop at l) h) ∙ ap (λ (b : List ℕ). part b 4 4) (sym stands-bytes))

  -- ONE VIEW: a whole record, or nothing that is one

  pub data Stands : Type 0 where
    whole : (n k : ℕ) → head_at l at ≡ Record n k → Stands
    nothing : record_at l at ≡ [] → next_at l at ≡ at → (4 ≤ length_at l at → at + length_at l at ≤ length l → ⊥) → Stands

  nothing-bytes : (h : Head) → head_at l at ≡ h → length_of h ≡ 0 → record_at l at ≡ []
  unfolding record_at
  nothing-bytes h e z = rw (e, z) refl

  pub look : Stands
  unfolding length_of
  look = go (head_at l at) refl
    where
      go : (h : Head) → head_at l at ≡ h → Stands
      go (Record n k) e = whole n k e
      go End e = nothing (nothing-bytes End e refl) (next-end l at e) (λ least inside. omega (arith, end-tells l at e))
      go Short e = nothing (nothing-bytes Short e refl) (next-short l at e) (short-tells l at e)

  -- THE PLACE PAST IT

  pub next-length : next_at l at ≡ at + length (record_at l at)
  next-length = go look
    where
      go : Stands → next_at l at ≡ at + length (record_at l at)
      go (whole n k e) = next-record l at n k e ∙ ap (λ (m : ℕ). at + m) (sym (stands-length n k e))
      go (nothing e z h) = z ∙ sym (ap (λ (b : List ℕ). at + length b) e ∙ omega arith)

  pub next-most : at ≤ length l → next_at l at ≤ length l
  next-most h = go look
    where
      go : Stands → next_at l at ≤ length l
      go (whole n k e) = omega (arith, (record-tells l at n k e).inside, next-record l at n k e)
      go (nothing e z g) = omega (arith, z)

  -- where the reader goes on, a record stands
  pub moved_inside : (next_at l at ≡ at → ⊥) → at + 4 ≤ length l
  moved_inside h = go look
    where
      go : Stands → at + 4 ≤ length l
      go (whole n k e) = omega (arith, (record-tells l at n k e).least, (record-tells l at n k e).inside)
      go (nothing e z g) = absurd (h z)

  pub record-between : record_at l at ≡ take (next_at l at - at) (drop at l)
  unfolding record_at next_at
  record-between = ap (λ (m : ℕ). take m (drop at l)) {x = length_of (head_at l at)} {y = at + length_of (head_at l at) - at} (omega arith)

  -- A RECORD OF A KNOWN LENGTH

  module _ (m : ℕ) (least : 4 ≤ m) where
    pub stands_here : (length_at l at ≡ m) → at + m ≤ length l → head_at l at ≡ Record m (kind_at l at)
    stands_here e inside = head-record l at m (kind_at l at) (sym e) refl least inside

    stands-not : (length_at l at ≡ m → ⊥) → length (record_at l at) ≡ m → ⊥
    stands-not other = go look
      where
        go : Stands → length (record_at l at) ≡ m → ⊥
        go (whole n k e) q = other ((record-tells l at n k e).is-length ∙ sym (stands-length n k e) ∙ q)
        go (nothing e z h) q = omega (arith, ap length e, q)

    -- what reads records of m bytes alone reads the next m bytes as it reads the record
    module _ {A : Type 0} (f : List ℕ → Option A) (of-kind : (x : List ℕ) → record_kind x ≡ 0 → f x ≡ none) (of_length : (x : List ℕ) → (length x ≡ m → ⊥) → f x ≡ none) where
      pub next-front : at + m ≤ length l → f (take m (drop at l)) ≡ f (record_at l at)
      next-front inside = go (eqb (length_at l at) m) refl
        where
          go : (t : Bool) → eqb (length_at l at) m ≡ t → f (take m (drop at l)) ≡ f (record_at l at)
          go true t = ap f (sym (stands-bytes m (kind_at l at) (stands_here (eqb-true (length_at l at) m t) inside)))
          go false t =
              let other = eqb-false (length_at l at) m t in
              let size : length (take m (drop at l)) ≡ m = length-take-le m (drop at l) (omega (arith, length-drop at l)) in
              let none_here : record_kind (take m (drop at l)) ≡ 0 = record_kind-none (take m (drop at l)) (λ four is. other (sym (part_length m (omega arith)) ∙ is ∙ size)) in
              of-kind _ none_here ∙ sym (of_length _ (stands-not other))

      -- and where it finds something, the next record starts m bytes on
      found-length : (a : A) → f (record_at l at) ≡ some a → length (record_at l at) ≡ m
      found-length a e = go (eqb (length (record_at l at)) m) refl
        where
          go : (t : Bool) → eqb (length (record_at l at)) m ≡ t → length (record_at l at) ≡ m
          go true t = eqb-true (length (record_at l at)) m t
          go false t =
              let z : none ≡ some a = sym (of_length (record_at l at) (eqb-false (length (record_at l at)) m t)) ∙ e in
              let y : ◌≡◌ {A = ℕ} 0 1 = cc in
              absurd (omega arith)

      pub found-next : (a : A) → f (record_at l at) ≡ some a → next_at l at ≡ at + m
      found-next a e = next-length ∙ ap (λ (n : ℕ). at + n) (found-length a e)

      pub found_inside : (a : A) → f (record_at l at) ≡ some a → at + m ≤ length l
      found_inside a e = go look
        where
          size : length (record_at l at) ≡ m
          size = found-length a e

          go : Stands → at + m ≤ length l
          go (whole n k s) = omega (arith, (record-tells l at n k s).inside, stands-length n k s, size)
          go (nothing b z h) = absurd (omega (arith, ap length b, size))

-- ALL OF THE BYTES ARE ONE RECORD, or are not

module _ (l : List ℕ) where
  pub alone-bytes : (k : ℕ) → record_kind l ≡ k → 1 ≤ k → record_at l 0 ≡ l
  alone-bytes k e h = go (eqb (next_at l 0) (length l)) refl
    where
      go : (t : Bool) → eqb (next_at l 0) (length l) ≡ t → record_at l 0 ≡ l
      go true t = record-between l 0 ∙ take_all (next_at l 0 - 0) l (omega (arith, eqb-true (next_at l 0) (length l) t))
      go false t =
          let none_here : record_kind l ≡ 0 =
          record_kind-none l (λ four whole. eqb-false (next_at l 0) (length l) t (next-record l 0 _ _ (stands_here l 0 (length l) four whole (omega arith)) ∙ omega arith)) in
          absurd (omega (arith, e, h, none_here))

-- WHAT THE CODE FINDS: a record at a place

module _ (l : List ℕ) (at : ℕ) {n m : ℕ} (e : Record n m ≡ head_at l at) where
  pub record_least : 4 ≤ n
  record_least = (record-tells l at n m (sym e)).least

  pub record_inside : at + n ≤ length l
  record_inside = (record-tells l at n m (sym e)).inside

  pub record_next : next_at l at ≡ at + n
  record_next = next-record l at n m (sym e)

  pub length_here : n ≡ length (record_at l at)
  length_here = sym (stands-length l at n m (sym e))

  pub number_here : 8 ≤ n → val (part l (at + 4) 4) ≡ val (part (record_at l at) 4 4)
  number_here = stands-number l at n m (sym e)

  pub kind_here : {k : Kind} → k ≡ kind_named m → record_kind (record_at l at) ≡ kind_number k
  kind_here named = stands-kind l at n m (sym e) ∙ named-number named

  pub kind-other : {r : Kind} (k : Kind) → Known k → r ≡ kind_named m → (r ≡ k → ⊥) → record_kind (record_at l at) ≡ kind_number k → ⊥
  kind-other k known named other q = not-number k known named other (sym (stands-kind l at n m (sym e)) ∙ q)

-- or none
pub none_here : (l : List ℕ) (at : ℕ) {h : Head} → h ≡ head_at l at → ((n k : ℕ) → h ≡ Record n k → ⊥) → record_kind (record_at l at) ≡ 0
unfolding length_of
none_here l at {h} e other =
    ap record_kind (not-record h other (λ q. nothing-bytes l at End (sym e ∙ q) refl) (λ q. nothing-bytes l at Short (sym e ∙ q) refl)) ∙ empty-kind

-- and a record in front: it is all of the bytes, or not; or none

module _ (l : List ℕ) where
  module _ {n m : ℕ} (e : Record n m ≡ head_at l 0) where
    pub alone-kind : n ≡ length l → record_kind l ≡ m
    alone-kind q =
        let w = record-tells l 0 n m (sym e) in
        record_kind-read l (omega (arith, w.least, q)) (w.is-length ∙ q) ∙ w.is-kind

    pub more-kind : (n ≡ length l → ⊥) → record_kind l ≡ 0
    more-kind h = record_kind-none l (λ four whole. h (sym (record-tells l 0 n m (sym e)).is-length ∙ whole))

  pub none-kind : {h : Head} → h ≡ head_at l 0 → ((n k : ℕ) → h ≡ Record n k → ⊥) → record_kind l ≡ 0
  none-kind {h} e other =
      record_kind-none l λ four whole.
      not-record h other (λ q. omega (arith, end-tells l 0 (sym e ∙ q))) (λ q. short-tells l 0 (sym e ∙ q) (omega (arith, four, whole)) (omega (arith, whole)))
