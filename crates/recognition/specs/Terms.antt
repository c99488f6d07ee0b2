-- What the iterator over terms asks and gives.
use Rattle.std.specs.Prelude.{◌+◌, ◌<◌, ◌≤◌, ℕ, ◌≡◌, List, MatchOption, length}
use Rattle.std.specs.Prelude.{Option}
use Rattle.place.specs.TermView.{TermAt}
use Rattle.rules.specs.Syntax.{Term}
use Rattle.recognition.specs.Scan.{TermsUpTo, own_size}
use Rattle.recognition.specs.declared.Terms.{Terms}

-- Terms stand one after the other from its place up to its end, inside the buffer.
abbrev pub StandsAtTerms : Terms → Type 0
StandsAtTerms s = ((ts : List Term) × TermsUpTo s.src.now s.k s.to s.at ts) × (s.to ≤ length s.src.now)

-- It gives its place and steps over the own bytes of the term there, or ends where no term is left.
abbrev pub GivesTerm : Terms → Option ℕ → Terms → Type 0
GivesTerm s r t = MatchOption r (s.to ≤ s.at) (λ p. (p ≡ s.at) × (s.at < s.to) × (t ≡ record s { at = t.at }) × ((u : Term) → TermAt s.src.now s.at s.k u → t.at ≡ s.at + own_size u))
