-- Each turn leaves the end as it was: what is written, and what is left to do, make the same block.
use Rattle.std.proofs.Common.{◌+◌, ◌++◌, ◌-◌, ◌≡◌, length}
use Rattle.buffer.specs.Slice.{put}
use Rattle.place.specs.Heads.{record_head}
use Rattle.record.specs.Program.{block_size, encode_block}
use Rattle.rules.specs.Syntax.{Block}
use Rattle.recognition.specs.Terms.{StandsAtTerms}
use Rattle.recognition.proofs.TermsLaws.{Over}
use Rattle.readback.specs.OpenRecords.{BlockFits}
use Rattle.readback.proofs.WriteLaws.{ToWrite}
use Rattle.readback.proofs.write_block.Given as goal

abbrev pub invariant-loop-at : goal.invariant-loop-at
invariant-loop-at l = record {
  next : StandsAtTerms l.terms;
  over : Over l.src l.k l.to l.terms;
  kept : length l.out ≡ length l.initial.out;
  left : (b : Block) → BlockFits l.src l.start l.to l.k l.initial.out b
      → ToWrite l.src l.k l.to l.terms.at l.out l.o l.head (put l.initial.out l.start (record_head 1 (4 + block_size b) ++ encode_block b)) (l.start + (4 + block_size b));
}

abbrev pub decreases-loop-at : goal.decreases-loop-at
decreases-loop-at l = l.to - l.terms.at
