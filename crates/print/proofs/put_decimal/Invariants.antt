-- Down to the place behind its first one: the digits of what is left of n, put in front of those written, give n's.
use Rattle.std.proofs.Common.{◌<◌}
use Rattle.buffer.specs.Slice.{put}
use Rattle.print.specs.Decimal.{decimal}
use Rattle.print.proofs.PrintLaws.{Written}
use Rattle.print.proofs.put_decimal.Given as goal

abbrev pub invariant-loop-place : goal.invariant-loop-place
invariant-loop-place l = (l.at < l.place) × Written l.at l.place l.left l.out (put l.initial.out l.at (decimal l.n))
