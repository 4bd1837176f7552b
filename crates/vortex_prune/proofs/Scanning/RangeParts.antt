-- What a scan by ranges says of the parts that the ranges are, and of the chunk's rows.
use Rattle.std.proofs.Common.{◌≡◌, ◌+◌, ◌++◌, ℕ, zero, suc, Bool, true, false, List, [], ◌∷◌, Option, Some, IsTrue, ap, ap₂, arith, cond, map, refl, sym, take, ◌∙◌}
use Rattle.std.specs.List.{AllByRecursion, enumerate_from, filter, flat_map, range_with_len}
use Rattle.std.specs.Prelude.{◌≤◌, ◌==◌, ◌||◌, is_none, nat_le, not as not_b, sum}
use Rattle.std.proofs.lemmas.Bool.{and_parts, or_parts}
use Rattle.std.proofs.lemmas.Bool.Decides.{nat_tests}
use Rattle.std.proofs.lemmas.List.{map-append}
use Rattle.std.proofs.lemmas.List.Elements.{filter-append, recursion_from_All}
use Rattle.std.proofs.lemmas.List.Sums.{sum_by-cons}
use Rattle.vortex_base.specs.Data.Columns.{ChunkData, row_of, row_count as rows_of}
use Rattle.vortex_base.specs.Data.Exact.{both_hold, both_true}
use Rattle.vortex_base.specs.Data.Scalars.{Constant}
use Rattle.vortex_base.specs.Data.Scopes.{Named, scope_eq_is_exact}
use Rattle.vortex_expr.specs.Meanings.Fitting.{fits_scope}
use Rattle.vortex_expr.specs.Meanings.Meaning.{applied, is_true, liked, meaning, opposite, satisfies, truth, truth_value, within}
use Rattle.vortex_expr.specs.Trees.Tree.{Place, Tree, column, literal, binary, between, is_null, is_not_null, not, like, stat, row_count, has_placeholder, has_row_count, is_plain}
use Rattle.vortex_base.specs.declared.scalar_value.ScalarValue.TheVariants as value
use Rattle.vortex_prune.proofs.Honesty.StatisticsBinders.{statistics_honest}
use Rattle.vortex_prune.proofs.Scanning.RangeLemmas.{filter_same}
use Rattle.vortex_prune.proofs.Scanning.WholeScan.{kept_is_full, parts_by_recursion}
use Rattle.vortex_prune.proofs.ZoneMaps.ZoneScan.{fits_each}
use Rattle.vortex_prune.specs.Binding.PartAnswers.{part_values}
use Rattle.vortex_prune.specs.Part.{IsTruePart, PartData, zone_of}
use Rattle.vortex_zone_map.specs.Zone.{ZoneData}
use Rattle.vortex_prune.specs.Scanning.RangeScans.{AreRanges, AreRangesBehind, AreRangesFrom, IsRange, counts_of, has_ranges, has_ranges_from, is_true_in, range_rows, range_satisfying, ranges_by, row_in_chunk, rows_in_chunk, satisfying_ranges, selected_from}
use Rattle.vortex_prune.specs.Scanning.Selection.{full, rows_by, satisfying, satisfying_rows, selected_rows, verdict}
use Rattle.vortex_prune.specs.Scanning.ZoneScans.{statistics_answers, zone_verdict, zone_verdicts}
use Rattle.vortex_prune.specs.Zones.{zones_of}
use Rattle.vortex_zone_map.specs.ZoneMaps.{IsMapOf, MapData}
use Rattle.vortex_prune.specs.declared.scan.verdict.Verdict.{Verdict}
use Rattle.vortex_prune.specs.declared.scan.verdict.Verdict.TheVariants.{Skipped, Whole, Tested}
use Rattle.vortex_rewrite.specs.Rewriting.Falsifiers.{falsifier, satisfier}
use Rattle.vortex_rewrite.specs.Rewriting.Lawful.{OwnRule}
use Rattle.vortex_rewrite.specs.Rewriting.Predicates.{is_predicate}

-- ---- the zones of a map are ranges of a chunk

pub same_scope : (k : ChunkData) (m : MapData) → IsTrue (has_ranges k m) → k.scope ≡ m.scope
same_scope k m h = (scope_eq_is_exact k.scope m.scope).0 (both_true _ _ h).0

count_same : (a b : ℕ) → (a == b) ≡ true → a ≡ b
count_same a b h = grind (arith, nat_tests)

pub same_count : (k : ChunkData) (m : MapData) → IsTrue (has_ranges k m) → sum m.rows ≡ rows_of k.columns
same_count k m h = count_same (sum m.rows) (rows_of k.columns) (both_true _ _ h).1

-- from a row on
pub same_scope_from : (k : ChunkData) (from : ℕ) (m : MapData) → IsTrue (has_ranges_from k from m) → k.scope ≡ m.scope
same_scope_from k from m h = (scope_eq_is_exact k.scope m.scope).0 (both_true _ _ h).0

le_tested : (a b : ℕ) → nat_le a b ≡ true → a ≤ b
le_tested a b h = grind (arith, nat_tests)

tested_le : (a b : ℕ) → a ≤ b → nat_le a b ≡ true
tested_le a b h = grind (arith, nat_tests)

pub within_from : (k : ChunkData) (from : ℕ) (m : MapData) → IsTrue (has_ranges_from k from m) → from + sum m.rows ≤ rows_of k.columns
within_from k from m h = le_tested (from + sum m.rows) (rows_of k.columns) (both_true _ _ h).1

-- ranges of a chunk are ranges from its first row on
pub from_first : (k : ChunkData) (m : MapData) → IsTrue (has_ranges k m) → IsTrue (has_ranges_from k 0 m)
from_first k m h = both_hold _ _ (both_true _ _ h).0 (tested_le (0 + sum m.rows) (rows_of k.columns) (omega (arith, same_count k m h)))

-- ---- the ranges are parts

part_rows : (v : Verdict) (p : Tree Place) (place from : ℕ) (k q : ChunkData) → IsRange k from q → range_rows v p place k from (rows_of q.columns) ≡ rows_by v p place q
part_rows Skipped p place from k q is = refl
part_rows Whole p place from k q is = refl
part_rows Tested p place from k q is =
    ap (map {B = ℕ × ℕ} (λ i. (place, i)))
    (filter_same (is_true_in p k.columns from (rows_of q.columns)) (λ i. satisfies p (row_of i q.columns) (rows_of q.columns)) 0 (rows_of q.columns)
    (λ i less. ap (λ (row : List Constant). satisfies p row (rows_of q.columns)) (sym (is i (omega (arith, less))))))

module _ (f s : Option (Tree Place)) (p : Tree Place) (k : ChunkData) (scope : List Named) where
  part_verdict : (part : PartData) → part.chunk.scope ≡ scope → zone_verdict f s scope (zone_of part) ≡ verdict f s part (part_values part)
  part_verdict part same = ap (λ ns. zone_verdict f s ns (zone_of part)) (sym same)

  parts_rows : (place from : ℕ) (parts : List PartData) → AllByRecursion (λ part. part.chunk.scope ≡ scope) parts → AreRangesFrom k from parts
      → ranges_by p k place from (zone_verdicts f s scope (zones_of parts)) (counts_of (zones_of parts))
      ≡ flat_map (λ e. rows_by (verdict f s e.1.0 e.1.1) p e.0 e.1.0.chunk) (enumerate_from place (statistics_answers parts))
  parts_rows place from [] scoped are = refl
  parts_rows place from (part ∷ parts) scoped are =
      let n = rows_of part.chunk.columns in
      ap (λ v. range_rows v p place k from n ++ ranges_by p k (place + 1) (from + n) (zone_verdicts f s scope (zones_of parts)) (counts_of (zones_of parts))) (part_verdict part scoped.0)
      ∙ ap (λ l. l ++ ranges_by p k (place + 1) (from + n) (zone_verdicts f s scope (zones_of parts)) (counts_of (zones_of parts))) (part_rows (verdict f s part (part_values part)) p place from k part.chunk are.0)
      ∙ ap (λ l. rows_by (verdict f s part (part_values part)) p place part.chunk ++ l) (parts_rows (place + 1) (from + n) parts scoped.1 are.1)

-- what is selected of the ranges is what a scan of these parts with their statistics selects
pub ranges_are_parts : (f s : Option (Tree Place)) (p : Tree Place) (k : ChunkData) (from : ℕ) (m : MapData) (parts : List PartData) → AreRangesBehind k from m parts
    → selected_from f s p k from m.scope (zones_of parts) ≡ selected_rows f s p (statistics_answers parts)
ranges_are_parts f s p k from m parts are = parts_rows f s p k m.scope 0 from parts (recursion_from_All (λ part. part.chunk.scope ≡ m.scope) parts are.scoped) are.ranges

-- and where these are true, what the full scan of them selects
pub ranges_are_full : (rules : List OwnRule) (p : Tree Place) (k : ChunkData) (from : ℕ) (m : MapData) (parts : List PartData) → IsTrue (is_predicate p) → IsTrue (is_plain p) → IsTrue (fits_scope p k.scope) → k.scope ≡ m.scope
    → AreRangesBehind k from m parts → AllByRecursion IsTruePart parts → selected_from (falsifier rules p) (satisfier rules p) p k from m.scope (zones_of parts) ≡ full p parts
ranges_are_full rules p k from m parts predicate plain fits same are are_true =
    ranges_are_parts (falsifier rules p) (satisfier rules p) p k from m parts are
    ∙ kept_is_full (λ (part : PartData) row n. part_values part) rules p parts parts refl predicate plain
    (fits_each p m.scope parts are.scoped (ap (fits_scope p) (sym same) ∙ fits)) are.are_parts (statistics_honest parts (parts_by_recursion parts are.are_parts) are_true)

-- what is selected by the verdicts on zones and by their row counts
pub kept_by : (f s : Option (Tree Place)) (p : Tree Place) (k : ChunkData) (from : ℕ) (m : MapData) (zones : List ZoneData) (vs : List Verdict) (ns : List ℕ) (found : List (ℕ × ℕ)) → IsMapOf zones m
    → vs ≡ zone_verdicts f s m.scope zones → ns ≡ m.rows → found ≡ ranges_by p k 0 from vs ns → found ≡ selected_from f s p k from m.scope zones
kept_by f s p k from m zones vs ns found of told counted is =
    is ∙ ap₂ (ranges_by p k 0 from) told (counted ∙ ap (λ (x : MapData). x.rows) of.same)

-- ---- a predicate without row counts is true of a row whatever the count

meaning_of_row : (e : Tree Place) → has_row_count e ≡ false → (row : List Constant) (n m : ℕ) → meaning e row n ≡ meaning e row m
meaning_of_row (column c) k row n m = refl
meaning_of_row (literal c) k row n m = refl
meaning_of_row (binary o l r) k row n m =
    let b = or_parts (has_row_count l) (has_row_count r) k in
    ap₂ (λ u v. truth_value (applied o u v)) (meaning_of_row l b.0 row n m) (meaning_of_row r b.1 row n m)
meaning_of_row (between o x l u) k row n m =
    let b = or_parts (has_row_count x) (has_row_count l || has_row_count u) k in
    let d = or_parts (has_row_count l) (has_row_count u) b.1 in
    let ex = meaning_of_row x b.0 row n m in
    let el = meaning_of_row l d.0 row n m in
    let eu = meaning_of_row u d.1 row n m in
    λ i. truth_value (within o (ex i) (el i) (eu i))
meaning_of_row (is_null x) k row n m = ap (λ v. Some (value.Bool (is_none v))) (meaning_of_row x k row n m)
meaning_of_row (is_not_null x) k row n m = ap (λ v. Some (value.Bool (not_b (is_none v)))) (meaning_of_row x k row n m)
meaning_of_row (not x) k row n m = ap (λ v. truth_value (opposite (truth v))) (meaning_of_row x k row n m)
meaning_of_row (like o x p) k row n m =
    let b = or_parts (has_row_count x) (has_row_count p) k in
    ap₂ (λ u v. truth_value (liked o u v)) (meaning_of_row x b.0 row n m) (meaning_of_row p b.1 row n m)
meaning_of_row (stat f x) k row n m = refl
meaning_of_row row_count k row n m = cc

not_so : (b : Bool) → not_b b ≡ true → b ≡ false
not_so true h = cc
not_so false h = refl

satisfied_by_row : (p : Tree Place) → IsTrue (is_plain p) → (row : List Constant) (n m : ℕ) → satisfies p row n ≡ satisfies p row m
satisfied_by_row p plain row n m = ap is_true (meaning_of_row p (not_so (has_row_count p) (and_parts (not_b (has_placeholder p)) (not_b (has_row_count p)) plain).1) row n m)

-- ---- rows of ranges are rows of the chunk

pairs_moved : (g : ℕ × ℕ → ℕ) (place from : ℕ) (xs : List ℕ) → ((i : ℕ) → g (place, i) ≡ from + i) → map g (map {B = ℕ × ℕ} (λ i. (place, i)) xs) ≡ map (λ i. from + i) xs
pairs_moved g place from [] h = refl
pairs_moved g place from (x ∷ xs) h = ap (λ j. j ∷ map g (map {B = ℕ × ℕ} (λ i. (place, i)) xs)) (h x) ∙ ap (λ l. (from + x) ∷ l) (pairs_moved g place from xs h)

moved_if : (b : Bool) (from x : ℕ) (xs : List ℕ) → map (λ i. from + i) (cond b (x ∷ xs) xs) ≡ cond b ((from + x) ∷ map (λ i. from + i) xs) (map (λ i. from + i) xs)
moved_if true from x xs = refl
moved_if false from x xs = refl

moved : (t : ℕ → Bool) (from b n : ℕ) → map (λ i. from + i) (filter (λ i. t (from + i)) (range_with_len b n)) ≡ filter t (range_with_len (from + b) n)
moved t from b zero = refl
moved t from b (suc n) =
    let next : from + (b + 1) ≡ (from + b) + 1 = omega arith in
    moved_if (t (from + b)) from b (filter (λ i. t (from + i)) (range_with_len (b + 1) n))
    ∙ ap (λ l. cond (t (from + b)) ((from + b) ∷ l) l) (moved t from (b + 1) n ∙ ap (λ j. filter t (range_with_len j n)) next)

range_parted : (a n m : ℕ) → range_with_len a (n + m) ≡ range_with_len a n ++ range_with_len (a + n) m
range_parted a zero m =
    let none : 0 + m ≡ m = omega arith in
    let here : a ≡ a + 0 = omega arith in
    ap (range_with_len a) none ∙ ap (λ j. range_with_len j m) here
range_parted a (suc n) m =
    let more : suc n + m ≡ suc (n + m) = omega arith in
    let next : (a + 1) + n ≡ a + suc n = omega arith in
    ap (range_with_len a) more ∙ ap (λ l. a ∷ l) (range_parted (a + 1) n m) ∙ ap (λ j. a ∷ (range_with_len (a + 1) n ++ range_with_len j m)) next

module _ (p : Tree Place) (plain : IsTrue (is_plain p)) (k : ChunkData) (most : ℕ) (g : ℕ × ℕ → ℕ) where
  -- the chunk's row at a place satisfies the predicate
  abbrev holds_at : ℕ → Bool
  holds_at i = satisfies p (row_of i k.columns) most

  range_moved : (place from n : ℕ) → ((i : ℕ) → g (place, i) ≡ from + i) → map g (range_satisfying p place k from n) ≡ filter holds_at (range_with_len from n)
  range_moved place from n h =
      let here : from + 0 ≡ from = omega arith in
      pairs_moved g place from (filter (is_true_in p k.columns from n) (range_with_len 0 n)) h
      ∙ ap (map (λ i. from + i)) (filter_same (is_true_in p k.columns from n) (λ i. holds_at (from + i)) 0 n (λ i less. satisfied_by_row p plain (row_of (from + i) k.columns) n most))
      ∙ moved holds_at from 0 n ∙ ap (λ j. filter holds_at (range_with_len j n)) here

  -- the satisfying rows of all ranges are those of the chunk from where the first begins
  pub ranges_moved : (place from : ℕ) (ns : List ℕ) → ((j r : ℕ) → g (place + j, r) ≡ from + (sum (take j ns) + r)) → map g (satisfying_ranges p k place from ns) ≡ filter holds_at (range_with_len from (sum ns))
  ranges_moved place from [] h = refl
  ranges_moved place from (n ∷ ns) h =
      let here : place ≡ place + 0 = omega arith in
      let first : (i : ℕ) → g (place, i) ≡ from + i = λ i. ap (λ j. g (j, i)) here ∙ h 0 i ∙ omega arith in
      let later : (j r : ℕ) → g ((place + 1) + j, r) ≡ (from + n) + (sum (take j ns) + r) =
      λ j r. let there : (place + 1) + j ≡ place + suc j = omega arith in ap (λ i. g (i, r)) there ∙ h (suc j) r ∙ omega (arith, sum_by-cons (λ x. x) n (take j ns)) in
      map-append g (range_satisfying p place k from n) (satisfying_ranges p k (place + 1) (from + n) ns)
      ∙ ap (λ l. l ++ map g (satisfying_ranges p k (place + 1) (from + n) ns)) (range_moved place from n first)
      ∙ ap (λ l. filter holds_at (range_with_len from n) ++ l) (ranges_moved (place + 1) (from + n) ns later)
      ∙ sym (filter-append holds_at (range_with_len from n) (range_with_len (from + n) (sum ns)))
      ∙ ap (filter holds_at) (sym (range_parted from n (sum ns)))
      ∙ ap (λ c. filter holds_at (range_with_len from c)) (sym (sum_by-cons (λ x. x) n ns))

-- those of parts that are ranges are what a full scan of the parts selects
full_by_ranges : (p : Tree Place) (k : ChunkData) (place from : ℕ) (parts : List PartData) → AreRangesFrom k from parts
    → satisfying_ranges p k place from (counts_of (zones_of parts)) ≡ flat_map (λ e. satisfying_rows p e.0 e.1.chunk) (enumerate_from place parts)
full_by_ranges p k place from [] are = refl
full_by_ranges p k place from (part ∷ parts) are =
    ap₂ (λ a b. a ++ b) (part_rows Tested p place from k part.chunk are.0) (full_by_ranges p k (place + 1) (from + rows_of part.chunk.columns) parts are.1)

-- the rows that the full scan of the parts selects are those that the full scan of the chunk does
full_of_chunk : (p : Tree Place) (k : ChunkData) (parts : List PartData) → IsTrue (is_plain p) → AreRangesFrom k 0 parts → sum (counts_of (zones_of parts)) ≡ rows_of k.columns
    → map (row_in_chunk (counts_of (zones_of parts))) (full p parts) ≡ satisfying p k
full_of_chunk p k parts plain are count =
    let ns = counts_of (zones_of parts) in
    sym (ap (map (row_in_chunk ns)) (full_by_ranges p k 0 0 parts are)) ∙ ranges_moved p plain k (rows_of k.columns) (row_in_chunk ns) 0 0 ns
    (λ j r. let here : 0 + j ≡ j = omega arith in ap (λ i. sum (take i ns) + r) here ∙ omega arith)
    ∙ ap (λ n. filter (λ i. satisfies p (row_of i k.columns) (rows_of k.columns)) (range_with_len 0 n)) count

pub chunk_is_full : (p : Tree Place) (k : ChunkData) (m : MapData) (parts : List PartData) (found : List (ℕ × ℕ)) → IsTrue (is_plain p) → IsTrue (has_ranges k m) → AreRanges k m parts → found ≡ full p parts
    → rows_in_chunk m.rows found ≡ satisfying p k
chunk_is_full p k m parts found plain has are is =
    let counted : m.rows ≡ counts_of (zones_of parts) = ap (λ (x : MapData). x.rows) are.is_map.same in
    ap (map (row_in_chunk m.rows)) is ∙ ap (λ ns. map (row_in_chunk ns) (full p parts)) counted
    ∙ full_of_chunk p k parts plain are.ranges (ap sum (sym counted) ∙ same_count k m has)
