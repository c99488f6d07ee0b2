-- What is left to write of the atoms, stored now, gives all of them.
use Rattle.std.proofs.Common.{◌*◌, ◌+◌, ◌-◌, ◌≡◌, length}
use Rattle.buffer.specs.Slice.{put}
use Rattle.translator.proofs.TupleLaws.{atoms_from}
use Rattle.translator.proofs.write_tuple.Given as goal

abbrev pub invariant-loop-x : goal.invariant-loop-x
invariant-loop-x l = record {
  place : l.p + 8 * (l.k + 1 - l.x) ≡ l.o + (4 + 8 * l.k);
  kept : length l.out ≡ length l.initial.out;
  same : put l.out l.p (atoms_from l.x l.k) ≡ put l.initial.out (l.o + 4) (atoms_from 1 l.k);
}
