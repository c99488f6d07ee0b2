-- The turns of a loop over terms.
use Rattle.std.proofs.Common.{◌+◌, ◌<◌, ◌≤◌, ◌≡◌, ℕ, IfSome, List, ◌++◌, Some, ap, ◌∙◌, arith, Option, None, refl}
use Rattle.place.specs.TermView.{TermAt}
use Rattle.rules.specs.Syntax.{Term}
use Rattle.recognition.specs.Scan.{inner, own_size}
use Rattle.recognition.specs.Terms.{GivesTerm, StandsAtTerms}
use Rattle.recognition.specs.declared.Terms.{Terms}
use Rattle.recognition.proofs.ScanLaws.{terms-first}

-- behind a term's own bytes terms stand again, and fewer bytes are left
pub stands-next : (s : Terms) → StandsAtTerms s → s.at < s.to → (n : ℕ) → ((u : Term) → TermAt s.src.now s.at s.k u → n ≡ own_size u) → StandsAtTerms (record s { at = s.at + n })
stands-next s h b n e = let f = terms-first h.0.1 b in ((inner f.term ++ f.rest, rw (e f.term f.here) f.after), h.1)

-- The terms come from this buffer, up to this end.
pub record Over (src : List ℕ) (k to : ℕ) (s : Terms) : Type 0 where
  pub source : s.src.now ≡ src
  pub width : s.k ≡ k
  pub end : s.to ≡ to

-- Place p was given, and the iterator has stepped over the term there.
pub record Turn (src : List ℕ) (k to p : ℕ) (s t : Terms) : Type 0 where
  pub here : p ≡ s.at
  pub some : p < to
  pub over : Over src k to t
  pub step : (u : Term) → TermAt src p k u → t.at ≡ p + own_size u

pub turn : {src : List ℕ} {k to p : ℕ} {s t : Terms} → Over src k to s → GivesTerm s (Some p) t → Turn src k to p s t
turn {src} {k} {to} {p} {s} {t} o g =
    let same : t ≡ record s { at = t.at } = g.2 in
    let here : p ≡ s.at = g.0 in
    record {
      here = here;
      some = omega (arith, g.1, o.end);
      over = record {
        source = ap (λ (x : Terms). x.src.now) same ∙ o.source;
        width = ap (λ (x : Terms). x.k) same ∙ o.width;
        end = ap (λ (x : Terms). x.to) same ∙ o.end;
      };
      step = λ u h. rw here (g.3 u (rw (o.source, o.width, ← here) h));
    }

pub over_end : {src : List ℕ} {k to : ℕ} {s : Terms} → Over src k to s → s.to ≤ s.at → to ≤ s.at
over_end o g = omega (arith, g, o.end)

-- where terms are left, a call steps over one of them, whatever it gave
pub turn-any : {src : List ℕ} {k to : ℕ} {s t : Terms} (r : Option ℕ) → Over src k to s → s.at < to → GivesTerm s r t → Turn src k to s.at s t
turn-any None o b g = absurd (omega (arith, g, o.end))
turn-any (Some p) o b g = let v = turn o g in record { here = refl; some = b; over = v.over; step = rw v.here at v.step }

-- and still stands at terms
pub stands-any : (s t : Terms) (r : Option ℕ) → s.at < s.to → GivesTerm s r t → IfSome r (λ x. StandsAtTerms t) → StandsAtTerms t
stands-any s t None b g h = absurd (omega (arith, g))
stands-any s t (Some p) b g h = h
