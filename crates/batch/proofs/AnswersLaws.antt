-- The answers of the jobs, one after the other.
use Prim.Native.Nat.{◌*◌, ◌+◌, ◌<◌, suc, zero, ℕ, ◌≤◌}
use mathlib.Core.Path.{ap, ap₂, subst, sym, ◌∙◌, ◌≡◌}
use mathlib.Core.List.{◌++◌, List, [], append_assoc, append-nil, flat_map, ◌∷◌}
use lib.ListN.{drop, drop_of_length-le, get_or, length, length-append, take}
use lib.Seq.{drop-cons, drop-drop, length-take-le, take_all, take_at}
use native.Mathlib.Nat.{mul-le-mul, mul-le-mul_right, suc-mul, zero-mul}
use native.Mathlib.Numerals.{add-one}
use native.Mathlib.Omega.{arith}
use Rattle.buffer.specs.Slice.{part}
use Rattle.buffer.proofs.SliceLaws.{part-re}
use Rattle.batch.specs.RunBatch.{Job, answer_of, answers_of, jobs, run_alone}

-- ROWS OF w VALUES, one after the other

one_more : (i w : ℕ) → i * w + w ≡ suc i * w
one_more i w = sym (suc-mul i w)

-- row i of n ends where they all do, or before
pub row_fits : (i n w : ℕ) → i < n → i * w + w ≤ n * w
row_fits i n w h = let m = mul-le-mul_right {m = suc i} {n = n} w h in omega (arith, one_more i w, m)

-- at most 64 rows of at most 18 values
pub rows-small : (i w : ℕ) → i ≤ 64 → w ≤ 18 → i * w ≤ 1152
rows-small i w a b = mul-le-mul {n₁ = i} {m₁ = w} {n₂ = 64} {m₂ = 18} a b

-- Job i of the batch: its k values, and its budget.
abbrev pub job_at : ℕ → List ℕ → List ℕ → ℕ → Job
job_at k budgets values i = record { store = take k (drop (i * k) values); budget = get_or budgets i 0 }

-- The jobs from i on.
abbrev pub jobs_from : ℕ → List ℕ → List ℕ → ℕ → List Job
jobs_from k budgets values i = jobs k (drop i budgets) (drop (i * k) values)

module _ (k : ℕ) (budgets values : List ℕ) (i : ℕ) where
  jobs-next : i < length budgets → jobs_from k budgets values i ≡ job_at k budgets values i ∷ jobs_from k budgets values (i + 1)
  unfolding jobs
  jobs-next h =
      let one : drop (suc i) budgets ≡ drop (i + 1) budgets = ap (λ (n : ℕ). drop n budgets) (sym (add-one i)) in
      let more : drop k (drop (i * k) values) ≡ drop ((i + 1) * k) values =
      drop-drop k (i * k) values ∙ ap (λ (n : ℕ). drop n values) {x = i * k + k} {y = (i + 1) * k} (one_more i k ∙ ap (λ (n : ℕ). n * k) (sym (add-one i))) in
      ap (λ (bs : List ℕ). jobs k bs (drop (i * k) values)) (drop-cons budgets i 0 h)
      ∙ ap₂ (λ (bs vs : List ℕ). job_at k budgets values i ∷ jobs k bs vs) one more

  jobs-end : length budgets ≤ i → jobs_from k budgets values i ≡ []
  unfolding jobs
  jobs-end h = ap (λ (bs : List ℕ). jobs k bs (drop (i * k) values)) (drop_of_length-le budgets h)

module _ (k : ℕ) (term : List ℕ) (room : ℕ) (budgets values : List ℕ) where
  -- the answer of job i
  abbrev pub answer_at : ℕ → List ℕ
  answer_at i = answer_of k (run_alone term room (job_at k budgets values i))

  -- the answers of all jobs, and of those from i on
  abbrev pub whole : List ℕ
  whole = answers_of k term room (jobs k budgets values)

  abbrev pub rest : ℕ → List ℕ
  rest i = answers_of k term room (jobs_from k budgets values i)

  rest-next : (i : ℕ) → i < length budgets → rest i ≡ answer_at i ++ rest (i + 1)
  unfolding answers_of flat_map
  rest-next i h = ap (answers_of k term room) (jobs-next k budgets values i h)

  rest_end : (i : ℕ) → length budgets ≤ i → rest i ≡ []
  unfolding answers_of flat_map
  rest_end i h = ap (answers_of k term room) (jobs-end k budgets values i h)

  -- What stands after i jobs, and the answers of those from i on, are all the answers.
  abbrev pub Done : ℕ → List ℕ → Type 0
  Done i front = front ++ rest i ≡ whole

  done_none : Done 0 []
  done_none = ap (λ (n : ℕ). answers_of k term room (jobs k budgets (drop n values))) {x = 0 * k} {y = 0} (zero-mul k)

  pub done-start : (l : List ℕ) → Done 0 (take (0 * (k + 2)) l)
  done-start l = subst (λ (n : ℕ). Done 0 (take n l)) (sym (zero-mul (k + 2))) done_none

  done_next : (i : ℕ) → i < length budgets → (front : List ℕ) → Done i front → Done (i + 1) (front ++ answer_at i)
  done_next i h front d = append_assoc front (answer_at i) (rest (i + 1)) ∙ ap (λ (l : List ℕ). front ++ l) (sym (rest-next i h)) ∙ d

  done_all : (i : ℕ) → length budgets ≤ i → (front : List ℕ) → Done i front → front ≡ whole
  done_all i h front d = sym (append-nil front) ∙ ap (λ (l : List ℕ). front ++ l) (sym (rest_end i h)) ∙ d

  -- all rows stand
  pub done-whole : (i : ℕ) → i ≡ length budgets → (l : List ℕ) → length l ≡ length budgets * (k + 2) → Done i (take (i * (k + 2)) l) → l ≡ whole
  done-whole i e l size d =
      sym (take_all (i * (k + 2)) l (omega (arith, size, ap (λ (n : ℕ). n * (k + 2)) e))) ∙ done_all i (omega arith) (take (i * (k + 2)) l) d

  -- row i + 1 behind the i rows that stand first, whatever follows
  row-placed : (l sub post : List ℕ) (i w : ℕ) → i * w ≤ length l → length sub ≡ w → take ((i + 1) * w) (take (i * w) l ++ (sub ++ post)) ≡ take (i * w) l ++ sub
  row-placed l sub post i w h e =
      ap (take ((i + 1) * w)) (sym (append_assoc (take (i * w) l) sub post))
      ∙ take_at (take (i * w) l ++ sub) post ((i + 1) * w)
      (length-append (take (i * w) l) sub ∙ ap₂ (λ (m n : ℕ). m + n) (length-take-le (i * w) l h) e ∙ one_more i w ∙ ap (λ (n : ℕ). n * w) (sym (add-one i)))

  -- a turn of the loop: `store` and `buffer` are what the code hands to job i
  pub done-turn : (i : ℕ) → i < length budgets → (l : List ℕ) → Done i (take (i * (k + 2)) l) → i * (k + 2) ≤ length l
      → (sub : List ℕ) → length sub ≡ k + 2 → (n : ℕ) → n ≡ k → (buffer : ℕ) → buffer ≡ room
      → sub ≡ answer_of k (run_alone term buffer (record { store = take n (drop (i * k) values); budget = get_or budgets i 0 }))
      → (post : List ℕ) → Done (i + 1) (take ((i + 1) * (k + 2)) (take (i * (k + 2)) l ++ (sub ++ post)))
  done-turn i here l d fits sub size n en buffer er is post =
      let own : sub ≡ answer_at i =
      is ∙ ap₂ (λ (m r : ℕ). answer_of k (run_alone term r (record { store = take m (drop (i * k) values); budget = get_or budgets i 0 }))) en er in
      let front : take ((i + 1) * (k + 2)) (take (i * (k + 2)) l ++ (sub ++ post)) ≡ take (i * (k + 2)) l ++ answer_at i =
      row-placed l sub post i (k + 2) fits size ∙ ap (λ (m : List ℕ). take (i * (k + 2)) l ++ m) own in
      subst (λ (m : List ℕ). Done (i + 1) m) (sym front) (done_next i here (take (i * (k + 2)) l) d)

  -- WHERE AN ANSWER STANDS, each being k + 2 values long

  module _ (long : (i : ℕ) → i < length budgets → length (answer_at i) ≡ k + 2) where
    -- the answers of the first i jobs
    record Before (i : ℕ) : Type 0 where
      pub front : List ℕ
      pub done : Done i front
      pub size : length front ≡ i * (k + 2)

    before : (i : ℕ) → i ≤ length budgets → Before i
    before zero h = record { front = []; done = done_none; size = sym (zero-mul (k + 2)) }
    before (suc i) h =
        let b = before i (omega arith) in
        let here : i < length budgets = omega arith in
        record {
          front = b.front ++ answer_at i;
          done = subst (λ (n : ℕ). Done n (b.front ++ answer_at i)) (add-one i) (done_next i here b.front b.done);
          size = length-append b.front (answer_at i) ∙ ap₂ (λ (m n : ℕ). m + n) b.size (long i here) ∙ one_more i (k + 2);
        }

    pub answer-at : (i : ℕ) → i < length budgets → part whole (i * (k + 2)) (k + 2) ≡ answer_at i
    answer-at i h =
        let b = before i (omega arith) in
        part-re whole b.front (answer_at i) (rest (i + 1)) (i * (k + 2)) (k + 2)
        (sym b.done ∙ ap (λ (l : List ℕ). b.front ++ l) (rest-next i h)) b.size (long i h)

    pub length_whole : length whole ≡ length budgets * (k + 2)
    length_whole =
        let b = before (length budgets) (omega arith) in
        ap length (sym (done_all (length budgets) (omega arith) b.front b.done)) ∙ b.size
