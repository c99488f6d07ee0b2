-- One law for each way out of a call: what it leaves where its tests hold, and where one of them does not.
use Prim.Native.Nat.{ℕ, ◌+◌, ◌≤◌, ◌<◌}
use mathlib.Core.Path.{◌≡◌}
use mathlib.Core.Bool.{true, false, and-false}
use mathlib.Core.List.{List}
use lib.Dec.{leb}
use lib.ListN.{length}
use borrow.Author.Tests.{leb-true, le-leb, lt-leb}
use Rattle.buffer.specs.Slice.{put, part, zeros}
use Rattle.probe.specs.Probe.{inside, changed_if, moved_down, moved_up, zeroed, copied}

pub le-inside : (len at count : ℕ) → inside len at count ≡ true → at + count ≤ len
unfolding inside
le-inside len at count e = leb-true (at + count) len e

pub moved-down : (l : List ℕ) (from to count : ℕ) → to ≤ from → inside (length l) from count ≡ true
    → put l to (part l from count) ≡ moved_down l from to count
unfolding moved_down changed_if
moved-down l from to count h e = rw (le-leb to from h, e)

pub not-down : (l : List ℕ) (from to count : ℕ) → from < to → l ≡ moved_down l from to count
unfolding moved_down changed_if
not-down l from to count h = rw (lt-leb to from h)

pub down_out : (l : List ℕ) (from to count : ℕ) → inside (length l) from count ≡ false → l ≡ moved_down l from to count
unfolding moved_down changed_if
down_out l from to count e = rw (e, and-false (leb to from))

pub moved-up : (l : List ℕ) (from to count : ℕ) → from ≤ to → inside (length l) to count ≡ true
    → put l to (part l from count) ≡ moved_up l from to count
unfolding moved_up changed_if
moved-up l from to count h e = rw (le-leb from to h, e)

pub not-up : (l : List ℕ) (from to count : ℕ) → to < from → l ≡ moved_up l from to count
unfolding moved_up changed_if
not-up l from to count h = rw (lt-leb from to h)

pub up-out : (l : List ℕ) (from to count : ℕ) → inside (length l) to count ≡ false → l ≡ moved_up l from to count
unfolding moved_up changed_if
up-out l from to count e = rw (e, and-false (leb from to))

pub zeroed-in : (l : List ℕ) (at count : ℕ) → inside (length l) at count ≡ true → put l at (zeros count) ≡ zeroed l at count
unfolding zeroed changed_if
zeroed-in l at count e = rw e

pub zeroed-out : (l : List ℕ) (at count : ℕ) → inside (length l) at count ≡ false → l ≡ zeroed l at count
unfolding zeroed changed_if
zeroed-out l at count e = rw e

pub copied-in : (src : List ℕ) (from : ℕ) (dst : List ℕ) (to count : ℕ) → inside (length src) from count ≡ true
    → inside (length dst) to count ≡ true → put dst to (part src from count) ≡ copied src from dst to count
unfolding copied changed_if
copied-in src from dst to count e d = rw (e, d)

pub source-out : (src : List ℕ) (from : ℕ) (dst : List ℕ) (to count : ℕ) → inside (length src) from count ≡ false
    → dst ≡ copied src from dst to count
unfolding copied changed_if
source-out src from dst to count e = rw e

pub copied-out : (src : List ℕ) (from : ℕ) (dst : List ℕ) (to count : ℕ) → inside (length dst) to count ≡ false
    → dst ≡ copied src from dst to count
unfolding copied changed_if
copied-out src from dst to count e = rw (e, and-false (inside (length src) from count))
