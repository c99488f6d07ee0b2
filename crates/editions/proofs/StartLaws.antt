-- Records moved by the calls are a start, proved.
use Prim.Native.Nat.{ℕ}
use mathlib.Core.Path.{ap, refl, subst, sym, ◌∙◌, ◌≡◌}
use mathlib.Core.List.{List}
use Rattle.agreement.specs.Orders.{recorded, reduces, steps}
use Rattle.buffer.specs.LittleEndian.{Bytes}
use Rattle.conversion.specs.Convert.{convert_call}
use Rattle.conversion.proofs.ConvertLaws.{program-record, program-taken, term-record, term-taken}
use Rattle.conversion.proofs.ConversionMeaningLaws.{program-leaves, program-low, term-leaves, term-low}
use Rattle.record.specs.Answers.{Wrote}
use Rattle.record.specs.declared.Conversion.TheVariants.{ToFirst, ToSecond}
use Rattle.record.specs.declared.Sort.{Sort}
use Rattle.record.specs.declared.Sort.TheVariants as sort
use Rattle.record.specs.Header.{program, term}
use Rattle.editions.specs.SameRuns.{Moved, MovedBack, MovedByCalls, moved_world}
use Rattle.editions.proofs.MovedLaws.{moves}

program-written : (buf : List ℕ) (used : ℕ) (out : List ℕ) → Bytes buf → (a : Wrote) → a ≡ convert_call program ToSecond buf used out → a.number ≡ 0 → Moved program buf used a.written a.used
program-written buf used out hb a e z =
    let y : (convert_call program ToSecond buf used out).number ≡ 0 = ap (λ (w : Wrote). w.number) (sym e) ∙ z in
    let q = program-taken ToSecond buf used out hb y in
    subst (λ (w : Wrote). Moved program buf used w.written w.used) (sym e)
    (moves q.1.0 (program-record q.1.2 q.0) (program-record (program-leaves ToSecond q.1.0 q.1.2 q.0 out y) (program-low ToSecond q.1.0 q.1.2 q.0 out y)))

term-written : (buf : List ℕ) (used : ℕ) (out : List ℕ) → Bytes buf → (b : Wrote) → b ≡ convert_call term ToSecond buf used out → b.number ≡ 0 → Moved term buf used b.written b.used
term-written buf used out hb b e z =
    let y : (convert_call term ToSecond buf used out).number ≡ 0 = ap (λ (w : Wrote). w.number) (sym e) ∙ z in
    let q = term-taken ToSecond buf used out hb y in
    subst (λ (w : Wrote). Moved term buf used w.written w.used) (sym e)
    (moves q.1.0 (term-record q.1.2 q.0) (term-record (term-leaves ToSecond q.1.0 q.1.2 q.0 out y) (term-low ToSecond q.1.0 q.1.2 q.0 out y)))

pub moved-by-calls : MovedByCalls
unfolding MovedByCalls moved_world
moved-by-calls w hp ht out other a b ea za eb zb = record {
  stepper_bytes = hp;
  stepper_record = program-written (w (steps recorded)).memory.buf (w (steps recorded)).memory.used out hp a ea za;
  stepper_store = refl;
  stepper_total = refl;
  counting = refl;
  reducer_bytes = ht;
  reducer_record = term-written (w reduces).memory.buf (w reduces).memory.used other ht b eb zb;
  reducer_replaced = refl;
  reducer_total = refl;
}

-- the record lent is the moved one of the record written
written_back : (s : Sort) (src : List ℕ) (used : ℕ) (out : List ℕ) → Bytes src → (convert_call s ToFirst src used out).number ≡ 0
    → Moved s (convert_call s ToFirst src used out).written (convert_call s ToFirst src used out).used src used
written_back sort.Program src used out hb z =
    let q = program-taken ToFirst src used out hb z in
    moves q.1.0 (program-record (program-leaves ToFirst q.1.0 q.1.2 q.0 out z) (program-low ToFirst q.1.0 q.1.2 q.0 out z)) (program-record q.1.2 q.0)
written_back sort.Term src used out hb z =
    let q = term-taken ToFirst src used out hb z in
    moves q.1.0 (term-record (term-leaves ToFirst q.1.0 q.1.2 q.0 out z) (term-low ToFirst q.1.0 q.1.2 q.0 out z)) (term-record q.1.2 q.0)

pub moved_back : MovedBack
unfolding MovedBack
moved_back s src used hb out a e z =
    subst (λ (w : Wrote). Moved s w.written w.used src used) (sym e) (written_back s src used out hb (ap (λ (w : Wrote). w.number) (sym e) ∙ z))
