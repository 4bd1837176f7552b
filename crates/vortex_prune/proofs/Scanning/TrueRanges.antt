-- Ranges of a chunk of which the rows of a table are true: what is selected of them is what satisfies the predicate.
use Rattle.std.proofs.Common.{◌≡◌, ◌<◌, ◌+◌, ◌++◌, ℕ, suc, Bool, true, false, List, [], ◌∷◌, Some, IsTrue, arith, map, refl, subst, sym, ap, ap₂, take, ◌∙◌}
use Rattle.std.specs.List.{enumerate_from, filter, range_with_len}
use Rattle.std.specs.Prelude.{if◌then◌else◌, slice_get, sum}
use Rattle.std.proofs.lemmas.List.Sums.{sum_by-cons}
use Rattle.std.proofs.lemmas.Option.{same_Some}
use Rattle.vortex_base.specs.Data.Columns.{ChunkData, row_count as rows_of, row_of}
use Rattle.vortex_base.specs.Data.Scalars.{Constant}
use Rattle.vortex_expr.specs.Meanings.Fitting.{fits_scope}
use Rattle.vortex_expr.specs.Meanings.Meaning.{satisfies}
use Rattle.vortex_expr.specs.Trees.Tree.{Place, Tree, is_plain}
use Rattle.vortex_prune.proofs.Scanning.Lossless.{all_pass, none_pass}
use Rattle.vortex_prune.proofs.Scanning.RangeParts.{ranges_moved, same_count}
use Rattle.vortex_prune.proofs.ZoneMaps.TrueRows.{row_skipped, row_whole}
use Rattle.vortex_prune.specs.Scanning.RangeScans.{IsRange, has_ranges, is_true_in, range_rows, range_satisfying, ranges_by, row_in_chunk, rows_in_chunk, satisfying_ranges}
use Rattle.vortex_prune.specs.Scanning.Selection.{proves_of, satisfying}
use Rattle.vortex_prune.specs.Scanning.TrueRows.{AreTrueRanges, IsTrueRow}
use Rattle.vortex_prune.specs.Scanning.ZoneScans.{EachSatisfies, row_values, row_verdict, row_verdicts}
use Rattle.vortex_zone_map.specs.ZoneMaps.{HasTable, MapData}
use Rattle.vortex_prune.specs.declared.scan.verdict.Verdict.TheVariants.{Skipped, Whole, Tested}
use Rattle.vortex_rewrite.specs.Rewriting.Falsifiers.{falsifier, satisfier}
use Rattle.vortex_rewrite.specs.Rewriting.Lawful.{OwnRule}
use Rattle.vortex_rewrite.specs.Rewriting.Predicates.{is_predicate}

module _ (rules : List OwnRule) (p : Tree Place) (m : MapData) (table : HasTable m) (predicate : IsTrue (is_predicate p)) (plain : IsTrue (is_plain p)) (fits : IsTrue (fits_scope p m.scope)) (k : ChunkData) where
  module _ (r from : ℕ) (range : ChunkData) (is : IsRange k from range) (row : IsTrueRow m r range) where
    -- each row of the range does what each row of the chunk that it is does
    same_test : (b : Bool) → EachSatisfies b p range → (i : ℕ) → i < rows_of range.columns → is_true_in p k.columns from (rows_of range.columns) i ≡ b
    same_test b each i less = ap (λ (x : List Constant). satisfies p x (rows_of range.columns)) (sym (is i less)) ∙ each i less

    by_proofs : (place : ℕ) (a b : Bool) → proves_of (falsifier rules p) (rows_of range.columns) (row_values m r) ≡ a → proves_of (satisfier rules p) (rows_of range.columns) (row_values m r) ≡ b
        → range_rows (if a then Skipped else if b then Whole else Tested) p place k from (rows_of range.columns) ≡ range_satisfying p place k from (rows_of range.columns)
    by_proofs place true b h g =
        sym (ap (map {B = ℕ × ℕ} (λ i. (place, i)))
        (none_pass (is_true_in p k.columns from (rows_of range.columns)) 0 (rows_of range.columns)
        (λ i less. same_test false (row_skipped rules p m table predicate plain fits r range row h) i (omega (arith, less)))))
    by_proofs place false true h g =
        sym (ap (map {B = ℕ × ℕ} (λ i. (place, i)))
        (all_pass (is_true_in p k.columns from (rows_of range.columns)) 0 (rows_of range.columns)
        (λ i less. same_test true (row_whole rules p m table predicate plain fits r range row g) i (omega (arith, less)))))
    by_proofs place false false h g = refl

    -- whatever the verdict on it is, its satisfying rows are selected
    range_full : (n : ℕ) → slice_get m.rows r ≡ Some n → range_rows (row_verdict (falsifier rules p) (satisfier rules p) m r n) p r k from n ≡ range_satisfying p r k from n
    range_full n at =
        subst (λ j. range_rows (row_verdict (falsifier rules p) (satisfier rules p) m r j) p r k from j ≡ range_satisfying p r k from j) (same_Some (rows_of range.columns) n (sym row.counted ∙ at))
        (by_proofs r (proves_of (falsifier rules p) (rows_of range.columns) (row_values m r)) (proves_of (satisfier rules p) (rows_of range.columns) (row_values m r)) refl refl)

  -- the ranges of these row counts, which are the map's from a place on, begin at a row
  abbrev AreFrom : (place from : ℕ) → List ℕ → Type 0
  AreFrom place from ns =
      (j n : ℕ) → slice_get ns j ≡ Some n → (slice_get m.rows (place + j) ≡ Some n) × (range : ChunkData) × IsRange k (from + sum (take j ns)) range × IsTrueRow m (place + j) range

  all_full : (place from : ℕ) (ns : List ℕ) → AreFrom place from ns
      → ranges_by p k place from (map (λ e. row_verdict (falsifier rules p) (satisfier rules p) m e.0 e.1) (enumerate_from place ns)) ns ≡ satisfying_ranges p k place from ns
  all_full place from [] are = refl
  all_full place from (n ∷ ns) are =
      let first = are 0 n refl in
      let here : place + 0 ≡ place = omega arith in
      let start : from + sum [] ≡ from = omega arith in
      let later : AreFrom (place + 1) (from + n) ns =
      λ j x at.
      let q = are (suc j) x at in
      let there : place + suc j ≡ (place + 1) + j = omega arith in
      let begins : from + sum (n ∷ take j ns) ≡ (from + n) + sum (take j ns) = omega (arith, sum_by-cons (λ x. x) n (take j ns)) in (
        ap (slice_get m.rows) (sym there) ∙ q.0,
        q.1,
        subst (λ i. IsRange k i q.1) begins q.2,
        subst (λ i. IsTrueRow m i q.1) there q.3,
      ) in
      ap₂ (λ a b. a ++ b)
      (range_full place from first.1 (subst (λ i. IsRange k i first.1) start first.2) (subst (λ i. IsTrueRow m i first.1) here first.3) n (ap (slice_get m.rows) (sym here) ∙ first.0))
      (all_full (place + 1) (from + n) ns later)

  -- so of all ranges of a map from a row on
  pub ranges_full : (from : ℕ) → AreTrueRanges k from m → ranges_by p k 0 from (row_verdicts (falsifier rules p) (satisfier rules p) m) m.rows ≡ satisfying_ranges p k 0 from m.rows
  ranges_full from are =
      all_full 0 from m.rows
      (λ j n at.
      let here : j ≡ 0 + j = omega arith in
      let q = are j n at in
      (ap (slice_get m.rows) (sym here) ∙ at, q.0, q.1, subst (λ i. IsTrueRow m i q.0) here q.2))

-- and where they are the whole chunk, these are its rows that satisfy the predicate
pub chunk_satisfying : (p : Tree Place) (k : ChunkData) (m : MapData) (found : List (ℕ × ℕ)) → IsTrue (is_plain p) → IsTrue (has_ranges k m) → found ≡ satisfying_ranges p k 0 0 m.rows → rows_in_chunk m.rows found ≡ satisfying p k
chunk_satisfying p k m found plain has is =
    ap (map (row_in_chunk m.rows)) is
    ∙ ranges_moved p plain k (rows_of k.columns) (row_in_chunk m.rows) 0 0 m.rows
    (λ j r. let here : 0 + j ≡ j = omega arith in ap (λ i. sum (take i m.rows) + r) here ∙ omega arith)
    ∙ ap (λ n. filter (λ i. satisfies p (row_of i k.columns) (rows_of k.columns)) (range_with_len 0 n)) (same_count k m has)
