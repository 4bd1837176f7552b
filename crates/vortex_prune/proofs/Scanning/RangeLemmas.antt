-- The rows of ranges: of one block after another, and of one range after another.
use Rattle.std.proofs.Common.{◌≡◌, ◌<◌, ◌≤◌, ◌+◌, ◌++◌, ℕ, zero, suc, Bool, List, [], ◌∷◌, append-nil, append_assoc, arith, cond, get_or, length, refl, sym, take, ap, ◌∙◌}
use Rattle.std.specs.Prelude.{◌&&◌, filter, min, sum}
use Rattle.std.specs.List.{range_with_len}
use Rattle.std.proofs.lemmas.List.Sums.{sum_by-cons}
use Rattle.vortex_base.specs.Data.Columns.{ChunkData}
use Rattle.vortex_expr.specs.Trees.Tree.{Place, Tree}
use Rattle.vortex_prune.specs.Scanning.Marks.{marked}
use Rattle.vortex_prune.specs.Scanning.RangeScans.{range_rows, range_tested, ranges_by, tested_by}
use Rattle.vortex_prune.specs.declared.scan.verdict.Verdict.{Verdict}
use Rattle.vortex_prune.specs.declared.scan.verdict.Verdict.TheVariants.{Skipped, Whole, Tested}

-- marks of rows behind some others are by their places among them
pub marked_behind : (test : ℕ → Bool) (a i : ℕ) (ms : List Bool) → marked test (a + i) ms ≡ marked (λ j. test (a + j)) i ms
marked_behind test a i [] = refl
marked_behind test a i (m ∷ ms) =
    let next : (a + i) + 1 ≡ a + (i + 1) = omega arith in
    ap (λ j. (m && test (a + i)) ∷ marked test j ms) next ∙ ap (λ l. (m && test (a + i)) ∷ l) (marked_behind test a (i + 1) ms)

-- tests that agree on some places pass the same of them
pub filter_same : (s t : ℕ → Bool) (a n : ℕ) → ((i : ℕ) → i < a + n → s i ≡ t i) → filter s (range_with_len a n) ≡ filter t (range_with_len a n)
filter_same s t a zero h = refl
filter_same s t a (suc n) h =
    ap (λ b. cond b (a ∷ filter s (range_with_len (a + 1) n)) (filter s (range_with_len (a + 1) n))) (h a (omega arith))
    ∙ ap (λ l. cond (t a) (a ∷ l) l) (filter_same s t (a + 1) n (λ i less. h i (omega arith)))

-- ---- one more range

module _ (p : Tree Place) (k : ChunkData) where
  one_more : (place from : ℕ) (vs : List Verdict) (ns : List ℕ) (i : ℕ) (v : Verdict) (n : ℕ) → i < length vs → i < length ns
      → ranges_by p k place from (take (suc i) vs) (take (suc i) ns) ≡ ranges_by p k place from (take i vs) (take i ns) ++ range_rows (get_or vs i v) p (place + i) k (from + sum (take i ns)) (get_or ns i n)
  one_more place from [] ns i v n h g = absurd (omega (arith, h))
  one_more place from (w ∷ vs) [] i v n h g = absurd (omega (arith, g))
  one_more place from (w ∷ vs) (m ∷ ns) zero v n h g =
      let here : place ≡ place + 0 = omega arith in
      let start : from ≡ from + sum [] = omega arith in
      append-nil (range_rows w p place k from m) ∙ ap (λ j. range_rows w p j k from m) here ∙ ap (λ j. range_rows w p (place + 0) k j m) start
  one_more place from (w ∷ vs) (m ∷ ns) (suc i) v n h g =
      let first = range_rows w p place k from m in
      let before = ranges_by p k (place + 1) (from + m) (take i vs) (take i ns) in
      let here : (place + 1) + i ≡ place + suc i = omega arith in
      let start : (from + m) + sum (take i ns) ≡ from + sum (m ∷ take i ns) = omega (arith, sum_by-cons (λ x. x) m (take i ns)) in
      ap (λ l. first ++ l) (one_more (place + 1) (from + m) vs ns i v n (omega (arith, h)) (omega (arith, g)))
      ∙ sym (append_assoc first before (range_rows (get_or vs i v) p ((place + 1) + i) k ((from + m) + sum (take i ns)) (get_or ns i n)))
      ∙ ap (λ j. (first ++ before) ++ range_rows (get_or vs i v) p j k ((from + m) + sum (take i ns)) (get_or ns i n)) here
      ∙ ap (λ j. (first ++ before) ++ range_rows (get_or vs i v) p (place + suc i) k j (get_or ns i n)) start

  -- what was selected of ranges that begin at a row, with one more range
  pub ranges_next : (first : ℕ) (vs : List Verdict) (ns : List ℕ) (i from : ℕ) (v : Verdict) (n : ℕ) (old new : List (ℕ × ℕ)) → i < length vs → i < length ns → from ≡ first + sum (take i ns)
      → new ≡ old ++ range_rows (get_or vs i v) p i k from (get_or ns i n) → old ≡ ranges_by p k 0 first (take i vs) (take i ns) → new ≡ ranges_by p k 0 first (take (i + 1) vs) (take (i + 1) ns)
  ranges_next first vs ns i from v n old new h g at pushed before =
      let here : i ≡ 0 + i = omega arith in
      let next : suc i ≡ i + 1 = omega arith in
      pushed ∙ ap (λ l. l ++ range_rows (get_or vs i v) p i k from (get_or ns i n)) before
      ∙ ap (λ j. ranges_by p k 0 first (take i vs) (take i ns) ++ range_rows (get_or vs i v) p j k from (get_or ns i n)) here
      ∙ ap (λ j. ranges_by p k 0 first (take i vs) (take i ns) ++ range_rows (get_or vs i v) p (0 + i) k j (get_or ns i n)) at
      ∙ sym (one_more 0 first vs ns i v n h g)
      ∙ ap (λ j. ranges_by p k 0 first (take j vs) (take j ns)) next

-- and what was tested
tested_more : (vs : List Verdict) (ns : List ℕ) (i : ℕ) (v : Verdict) (n : ℕ) → i < length vs → i < length ns
    → tested_by (take (suc i) vs) (take (suc i) ns) ≡ tested_by (take i vs) (take i ns) + range_tested (get_or vs i v) (get_or ns i n)
tested_more [] ns i v n h g = absurd (omega (arith, h))
tested_more (w ∷ vs) [] i v n h g = absurd (omega (arith, g))
tested_more (w ∷ vs) (m ∷ ns) zero v n h g = omega arith
tested_more (w ∷ vs) (m ∷ ns) (suc i) v n h g =
    let more = tested_more vs ns i v n (omega (arith, h)) (omega (arith, g)) in
    omega (arith, more)

-- of a range no more rows are tested than it has
tested_within : (v : Verdict) (n : ℕ) → range_tested v n ≤ n
tested_within Skipped n = omega arith
tested_within Whole n = omega arith
tested_within Tested n = omega arith

-- so the number of tested rows of one chunk doesn't reach the greatest number
not_at_most : (old new tested n first rows most : ℕ) → new ≡ min (old + tested) most → tested ≤ n → old ≤ first → first + n ≤ rows → rows ≤ most → (new ≡ old + tested) × (new ≤ first + n)
not_at_most old new tested n first rows most raised less before within fits = (omega arith, omega arith)

pub tested_next : (vs : List Verdict) (ns : List ℕ) (i : ℕ) (v : Verdict) (n old new first rows most : ℕ) → i < length vs → i < length ns
    → new ≡ min (old + range_tested (get_or vs i v) (get_or ns i n)) most → old ≤ first → first + get_or ns i n ≤ rows → rows ≤ most
    → old ≡ tested_by (take i vs) (take i ns) → (new ≡ tested_by (take (i + 1) vs) (take (i + 1) ns)) × (new ≤ first + get_or ns i n)
tested_next vs ns i v n old new first rows most h g raised less within fits before =
    let next : suc i ≡ i + 1 = omega arith in
    let t = not_at_most old new (range_tested (get_or vs i v) (get_or ns i n)) (get_or ns i n) first rows most raised (tested_within (get_or vs i v) (get_or ns i n)) less within fits in
    (t.0 ∙ ap (λ j. j + range_tested (get_or vs i v) (get_or ns i n)) before ∙ sym (tested_more vs ns i v n h g) ∙ ap (λ j. tested_by (take j vs) (take j ns)) next, t.1)
