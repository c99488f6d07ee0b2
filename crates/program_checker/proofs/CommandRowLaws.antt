-- The verdict on a row of commands, from `at` up to `end`: by what the reader finds there, and one turn of the loop that checks it.
use Prim.Native.Nat.{◌+◌, ◌-◌, ◌<◌, ℕ, ◌≤◌}
use mathlib.Core.Path.{ap, refl, subst, sym, ◌∙◌, ◌≡◌}
use mathlib.Core.Bool.{Bool, true}
use mathlib.Core.List.{List}
use lib.ListN.{drop, length, take}
use lib.Seq.{length-take-le}
use native.Mathlib.Omega.{arith}
use Rattle.record.specs.Front.{Front}
use Rattle.record.specs.Program.{decode_block}
use Rattle.record.specs.Record.{split}
use Rattle.record.proofs.BetweenLaws.{between, drop-between, drop-take, length-between, take-between}
use Rattle.record.proofs.FrontLaws.{front-take}
use Rattle.record.proofs.ProgramReadLaws.{decode-bad, decode-front}
use Rattle.reader.specs.declared.Head.TheVariants.{End, Record, Short}
use Rattle.reader.specs.Head.{head_at, next_at}
use Rattle.reader.proofs.HeadLaws.{end-tells, next-record, not-record, record-tells}
use Rattle.reader.proofs.SplitLaws.{record-front, short-bad}
use Rattle.checker.specs.declared.Verdict.{Verdict}
use Rattle.checker.specs.declared.Verdict.TheVariants.{Good, Malformed}
use Rattle.checker.specs.Verdict.{worse}
use Rattle.checker.proofs.VerdictLaws.{worse-assoc, worse-comm, worse-good}
use Rattle.program_checker.specs.BlockVerdict.{block_verdict}
use Rattle.program_checker.specs.OpensCommand.{ChecksCommand}
use Rattle.program_checker.proofs.ProgramVerdictLaws.{empty-verdict, joined-verdict}

-- the commands from `at` up to `end`
abbrev pub row_verdict : ℕ → ℕ → List ℕ → ℕ → ℕ → Verdict
row_verdict k largest s at end = block_verdict k largest (decode_block (between s at end))

-- the same parts in the order in which they are checked
reorder : (f v i r : Verdict) → worse f (worse (worse v i) r) ≡ worse (worse (worse f r) v) i
reorder f v i r =
    ap (worse f) (worse-comm (worse v i) r ∙ sym (worse-assoc r v i)) ∙ sym (worse-assoc f (worse r v) i) ∙ ap (λ (x : Verdict). worse x i) (sym (worse-assoc f r v))

pub row-end : (k largest : ℕ) (s : List ℕ) (at end : ℕ) → end ≤ length s → end ≤ at → row_verdict k largest s at end ≡ Good
row-end k largest s at end fits h = empty-verdict k largest (between s at end) (omega (arith, length-between s at end fits))

-- The first command of the row is a record that ends at `next`.
pub record FirstCommand (s : List ℕ) (at end next : ℕ) : Type 0 where
  pub least : at + 4 ≤ next
  pub most : next ≤ end
  pub stands : Front (between s at end) (next - at)

-- After a turn the verdict on the row is the worse of what was found and the verdict on what is left, as it was before.
pub record Turned (k largest : ℕ) (s : List ℕ) (at end : ℕ) (found : Verdict) (left stop : ℕ) (now : Verdict) : Type 0 where
  pub low : left ≤ stop
  pub high : stop ≤ end
  pub same : worse found (row_verdict k largest s at end) ≡ worse now (row_verdict k largest s left stop)

module _ (k largest : ℕ) (s : List ℕ) (at end : ℕ) (fits : end ≤ length s) where
  -- WHAT THE READER FINDS

  row-length : length (take end s) ≡ end
  row-length = length-take-le end s fits

  pub row-left : at < end → head_at (take end s) at ≡ End → ⊥
  row-left h e = omega (arith, row-length, end-tells (take end s) at e)

  pub row-short : at < end → head_at (take end s) at ≡ Short → row_verdict k largest s at end ≡ Malformed
  row-short h e =
      ap (block_verdict k largest) (decode-bad (between s at end) (sym (ap split (drop-take at end s)) ∙ short-bad (take end s) at (omega (arith, row-length)) e))

  pub row-no_record : at < end → ((n kind : ℕ) → head_at (take end s) at ≡ Record n kind → ⊥) → row_verdict k largest s at end ≡ Malformed
  row-no_record h none = not-record (head_at (take end s) at) none (λ e. absurd (row-left h e)) (row-short h)

  pub row_first : (n kind next : ℕ) → head_at (take end s) at ≡ Record n kind → next ≡ next_at (take end s) at → FirstCommand s at end next
  row_first n kind next stands goes-on =
      let front = record-front (take end s) at n kind stands in
      let is-next : next ≡ at + n = goes-on ∙ next-record (take end s) at n kind stands in
      let is-length : n ≡ next - at = omega arith in
      record {
        least = omega (arith, front.least);
        most = omega (arith, row-length, (record-tells (take end s) at n kind stands).inside);
        stands = subst (λ (x : List ℕ). Front x (next - at)) (drop-take at end s) (subst (Front (drop at (take end s))) is-length front);
      }

  module _ (next : ℕ) (f : FirstCommand s at end next) where
    command-length : length (between s at next) ≡ next - at
    command-length = length-between s at next (omega (arith, f.most))

    is-next : at + (next - at) ≡ next
    is-next = omega (arith, f.least)

    taken : take (next - at) (between s at end) ≡ between s at next
    taken = take-between s at end (next - at) (omega (arith, f.least, f.most)) ∙ ap (between s at) is-next

    pub first-front : Front (between s at next) (length (between s at next))
    first-front = rw (command-length, ← taken) (front-take (between s at end) (next - at) f.stands)

    row-command : row_verdict k largest s at end ≡ worse (row_verdict k largest s at next) (row_verdict k largest s next end)
    row-command =
        let dropped : drop (next - at) (between s at end) ≡ between s next end = drop-between s at end (next - at) ∙ ap (λ (x : ℕ). between s x end) is-next in
        ap (block_verdict k largest) (decode-front (between s at end) (next - at) f.stands)
        ∙ joined-verdict k largest (decode_block (take (next - at) (between s at end))) (decode_block (drop (next - at) (between s at end)))
        ∙ rw (taken, dropped) refl

    -- A TURN: the rest of the row is checked first, or there is none, or the whole command is checked

    module _ (whole : Bool) (v : Verdict) (inner : ℕ) (o : ChecksCommand k largest (between s at next) whole v inner) where
      opened : row_verdict k largest s at end ≡ worse (worse v (row_verdict k largest s (at + inner) next)) (row_verdict k largest s next end)
      opened = row-command ∙ rw (o.opens.both, drop-between s at next inner) refl

      pub row-inner : at + inner ≤ next
      row-inner = omega (arith, o.opens.most, command-length, f.least)

      module _ (found now : Verdict) (stop : ℕ) where
        pub turn-rest : now ≡ worse (worse found (row_verdict k largest s next end)) v → stop ≡ next → Turned k largest s at end found (at + inner) stop now
        turn-rest is-now is_stop = record {
          low = omega (arith, row-inner);
          high = omega (arith, f.most);
          same = ap (worse found) opened ∙ reorder found v (row_verdict k largest s (at + inner) next) (row_verdict k largest s next end) ∙ rw (is-now, is_stop) refl;
        }

        -- nothing is left of the one or of the other
        turn_one : worse v (row_verdict k largest s (at + inner) end) ≡ row_verdict k largest s at end → now ≡ worse found v → stop ≡ end → Turned k largest s at end found (at + inner) stop now
        turn_one is is-now is_stop = record {
          low = omega (arith, row-inner, f.most);
          high = omega arith;
          same = ap (worse found) (sym is) ∙ sym (worse-assoc found v (row_verdict k largest s (at + inner) end)) ∙ rw (is-now, is_stop) refl;
        }

        pub turn_last : end ≤ next → now ≡ worse found v → stop ≡ end → Turned k largest s at end found (at + inner) stop now
        turn_last none =
            let is-end : next ≡ end = omega (arith, f.most) in
            turn_one (sym (opened ∙ rw (row-end k largest s next end fits none, is-end) (worse-good (worse v (row_verdict k largest s (at + inner) end)))))

        pub turn-whole : whole ≡ true → now ≡ worse found v → stop ≡ end → Turned k largest s at end found (at + inner) stop now
        turn-whole all =
            let is-next : at + inner ≡ next = omega (arith, o.all all, command-length, f.least) in
            turn_one (sym (opened ∙ rw (row-end k largest s (at + inner) next (omega (arith, f.most)) (omega arith), is-next, worse-good v) refl))
