-- Where zones are ranges of a chunk, there are parts that are what stands in them.
use Rattle.std.proofs.Common.{◌≡◌, ◌<◌, ◌≤◌, ◌+◌, ◌==◌, ℕ, zero, suc, true, List, [], ◌∷◌, Option, IsTrue, ap, ap₂, arith, drop, length, map, refl, subst, sym, take, ◌∙◌}
use Rattle.std.specs.List.{AllByRecursion, list_all}
use Rattle.std.specs.Prelude.{slice_get, sum}
use Rattle.std.proofs.lemmas.Bool.Decides.{nat_tests}
use Rattle.std.proofs.lemmas.List.{length-drop, length-map, length-take-le}
use Rattle.std.proofs.lemmas.List.Elements.{All-from_recursion}
use Rattle.std.proofs.lemmas.List.Sums.{sum_by-cons}
use Rattle.std.proofs.lemmas.Option.{same_Some}
use Rattle.vortex_base.proofs.Data.ChunkLemmas.{all_long_of, equal_numbers}
use Rattle.vortex_base.specs.Data.Columns.{ChunkData, ColumnData, IsChunk, all_fit, all_long, has_shape, has_types, is_column, row_of, row_count as rows_of, value_at}
use Rattle.vortex_base.specs.Data.Exact.{both_hold, both_true}
use Rattle.vortex_base.specs.Data.Scalars.{Constant, is_optional_value}
use Rattle.vortex_base.specs.Data.Scopes.{Named, is_scope}
use Rattle.vortex_base.specs.declared.dtype.DType.{DType}
use Rattle.vortex_base.specs.declared.scalar_value.ScalarValue.{ScalarValue}
use Rattle.vortex_prune.proofs.Honesty.ZoneLemmas.{chunk_alike}
use Rattle.vortex_prune.proofs.Scanning.RangeParts.{from_first, same_scope_from, within_from}
use Rattle.vortex_prune.specs.Part.{AreParts, IsPart}
use Rattle.vortex_zone_map.specs.Zone.{AreZonesOf, Entries, ZoneData, fits_zone}
use Rattle.vortex_prune.specs.Scanning.RangeScans.{AreRangesFrom, RangesAreThere, RangesBehindAreThere, counts_of, range_chunk, range_column, range_parts}
use Rattle.vortex_prune.specs.Zones.{zones_of}
use Rattle.vortex_zone_map.specs.ZoneMaps.{IsMapOf, MapData}

-- ---- values from a place on

taken_at : {X : Type 0} (xs : List X) (n i : ℕ) → i < n → slice_get (take n xs) i ≡ slice_get xs i
taken_at [] zero i less = absurd (omega (arith, less))
taken_at [] (suc n) i less = refl
taken_at (x ∷ xs) zero i less = absurd (omega (arith, less))
taken_at (x ∷ xs) (suc n) zero less = refl
taken_at (x ∷ xs) (suc n) (suc i) less = taken_at xs n i (omega (arith, less))

dropped_at : {X : Type 0} (xs : List X) (from i : ℕ) → slice_get (drop from xs) i ≡ slice_get xs (from + i)
dropped_at xs zero i = let none : i ≡ 0 + i = omega arith in ap (slice_get xs) none
dropped_at [] (suc from) i = refl
dropped_at (x ∷ xs) (suc from) i = let next : suc (from + i) ≡ suc from + i = omega arith in dropped_at xs from i ∙ ap (slice_get (x ∷ xs)) next

range_at : {X : Type 0} (xs : List X) (from n i : ℕ) → i < n → slice_get (take n (drop from xs)) i ≡ slice_get xs (from + i)
range_at xs from n i less = taken_at (drop from xs) n i less ∙ dropped_at xs from i

range_long : {X : Type 0} (xs : List X) (from n : ℕ) → from + n ≤ length xs → length (take n (drop from xs)) ≡ n
range_long xs from n h = length-take-le n (drop from xs) (omega (arith, length-drop from xs, h))

taken_fit : (t : DType) (vs : List (Option ScalarValue)) (n : ℕ) → all_fit t vs ≡ true → all_fit t (take n vs) ≡ true
taken_fit t vs zero h = refl
taken_fit t [] (suc n) h = refl
taken_fit t (v ∷ vs) (suc n) h = let k = both_true (is_optional_value v t) (all_fit t vs) h in both_hold _ _ k.0 (taken_fit t vs n k.1)

dropped_fit : (t : DType) (vs : List (Option ScalarValue)) (n : ℕ) → all_fit t vs ≡ true → all_fit t (drop n vs) ≡ true
dropped_fit t vs zero h = h
dropped_fit t [] (suc n) h = refl
dropped_fit t (v ∷ vs) (suc n) h = dropped_fit t vs n (both_true (is_optional_value v t) (all_fit t vs) h).1

-- ---- the columns of a range

number_same : (m n : ℕ) → m ≡ n → (m == n) ≡ true
number_same m n h = grind (arith, nat_tests)

module _ (from n : ℕ) where
  row_same : (i : ℕ) → i < n → (cs : List ColumnData) → row_of i (map (range_column from n) cs) ≡ row_of (from + i) cs
  row_same i less [] = refl
  row_same i less (c ∷ cs) =
      ap₂ (λ (x : Option (Option ScalarValue)) (l : List Constant). record { dtype = c.dtype; value = value_at x } ∷ l) (range_at c.values from n i less) (row_same i less cs)

  all_as_long : (m : ℕ) (cs : List ColumnData) → from + n ≤ m → all_long m cs ≡ true → all_long n (map (range_column from n) cs) ≡ true
  all_as_long m [] less h = refl
  all_as_long m (c ∷ cs) less h =
      let k = both_true (length c.values == m) (all_long m cs) h in
      let long : length (take n (drop from c.values)) ≡ n = range_long c.values from n (omega (arith, less, equal_numbers (length c.values) m k.0)) in
      both_hold _ _ (number_same (length (take n (drop from c.values))) n long) (all_as_long m cs less k.1)

  rows_there : (cs : List ColumnData) → from + n ≤ rows_of cs → rows_of (map (range_column from n) cs) ≡ n
  rows_there [] less = omega (arith, less)
  rows_there (c ∷ cs) less = range_long c.values from n less

  types_there : (ss : List Named) (cs : List ColumnData) → has_types ss cs ≡ true → has_types ss (map (range_column from n) cs) ≡ true
  types_there [] [] h = refl
  types_there [] (c ∷ cs) h = absurd cc
  types_there (s ∷ ss) [] h = absurd cc
  types_there (s ∷ ss) (c ∷ cs) h = both_hold _ _ (both_true _ _ h).0 (types_there ss cs (both_true _ _ h).1)

  columns_there : (cs : List ColumnData) → list_all is_column cs ≡ true → list_all is_column (map (range_column from n) cs) ≡ true
  columns_there [] h = refl
  columns_there (c ∷ cs) h =
      let k = both_true (is_column c) (list_all is_column cs) h in
      both_hold _ _ (taken_fit c.dtype (drop from c.values) n (dropped_fit c.dtype c.values from k.0)) (columns_there cs k.1)

  -- a range is a chunk
  chunk_there : (k : ChunkData) → IsChunk k → from + n ≤ rows_of k.columns → IsChunk (range_chunk k from n)
  chunk_there k h less =
      let cs = map (range_column from n) k.columns in
      let a = both_true (is_scope k.scope) _ h in
      let b = both_true (has_shape k.scope k.columns) _ a.1 in
      let d = both_true (has_types k.scope k.columns) _ b.1 in
      let many = equal_numbers (length k.scope) (length k.columns) (both_true (length k.scope == length k.columns) _ b.0).0 in
      let long : all_long (rows_of cs) cs ≡ true = ap (λ m. all_long m cs) (rows_there k.columns less) ∙ all_as_long (rows_of k.columns) k.columns less (all_long_of k h) in
      let shape : has_shape k.scope cs ≡ true = both_hold _ _ (number_same (length k.scope) (length cs) (many ∙ sym (length-map k.columns (range_column from n)))) long in
      both_hold _ _ a.0 (both_hold _ _ shape (both_hold _ _ (types_there k.scope k.columns d.0) (columns_there k.columns d.1)))

  -- and with the sets of its zone a part
  part_there : (k : ChunkData) (ss : List Entries) → IsChunk k → from + n ≤ rows_of k.columns → IsTrue (fits_zone k.scope ss) → IsPart (record { chunk = range_chunk k from n; stats = ss })
  part_there k ss h less fits = let chunk = chunk_there k h less in (chunk, sym (chunk_alike (range_chunk k from n) ss chunk) ∙ fits)

-- ---- those of all zones

module _ (k : ChunkData) (is_chunk : IsChunk k) where
  one_within : (from n : ℕ) (ns : List ℕ) → from + sum (n ∷ ns) ≤ rows_of k.columns → from + n ≤ rows_of k.columns
  one_within from n ns h = omega (arith, h, sum_by-cons (λ x. x) n ns)

  others_within : (from n : ℕ) (ns : List ℕ) → from + sum (n ∷ ns) ≤ rows_of k.columns → (from + n) + sum ns ≤ rows_of k.columns
  others_within from n ns h = omega (arith, h, sum_by-cons (λ x. x) n ns)

  parts_there : (from : ℕ) (zones : List ZoneData) → AreZonesOf k.scope zones → from + sum (counts_of zones) ≤ rows_of k.columns → AreParts (range_parts k from zones)
  parts_there from [] are h i part at = absurd cc
  parts_there from (z ∷ zones) are h zero part at =
      subst IsPart (same_Some (record { chunk = range_chunk k from z.rows; stats = z.stats }) part at)
      (part_there from z.rows k z.stats is_chunk (one_within from z.rows (counts_of zones) h) (are 0 z refl))
  parts_there from (z ∷ zones) are h (suc i) part at =
      parts_there (from + z.rows) zones (λ j y e. are (suc j) y e) (others_within from z.rows (counts_of zones) h) i part at

  scopes_there : (from : ℕ) (zones : List ZoneData) (scope : List Named) → k.scope ≡ scope → AllByRecursion (λ part. part.chunk.scope ≡ scope) (range_parts k from zones)
  scopes_there from [] scope same = tt
  scopes_there from (z ∷ zones) scope same = (same, scopes_there (from + z.rows) zones scope same)

  zones_there : (from : ℕ) (zones : List ZoneData) → from + sum (counts_of zones) ≤ rows_of k.columns → zones_of (range_parts k from zones) ≡ zones
  zones_there from [] h = refl
  zones_there from (z ∷ zones) h =
      ap₂ (λ (m : ℕ) (l : List ZoneData). record { rows = m; stats = z.stats } ∷ l) (rows_there from z.rows k.columns (one_within from z.rows (counts_of zones) h))
      (zones_there (from + z.rows) zones (others_within from z.rows (counts_of zones) h))

  ranges_there : (from : ℕ) (zones : List ZoneData) → from + sum (counts_of zones) ≤ rows_of k.columns → AreRangesFrom k from (range_parts k from zones)
  ranges_there from [] h = tt
  ranges_there from (z ∷ zones) h =
      let rows : rows_of (map (range_column from z.rows) k.columns) ≡ z.rows = rows_there from z.rows k.columns (one_within from z.rows (counts_of zones) h) in (
        (λ i less. row_same from z.rows i (omega (arith, less, rows)) k.columns),
        subst (λ m. AreRangesFrom k (from + m) (range_parts k (from + z.rows) zones)) (sym rows) (ranges_there (from + z.rows) zones (others_within from z.rows (counts_of zones) h)),
      )

pub ranges_behind_are_there : RangesBehindAreThere
ranges_behind_are_there k from m zones is_chunk of has =
    let same = same_scope_from k from m has in
    let counted : m.rows ≡ counts_of zones = ap (λ (x : MapData). x.rows) of.same in
    let within : from + sum (counts_of zones) ≤ rows_of k.columns = omega (arith, ap sum counted, within_from k from m has) in
    let they = zones_there k is_chunk from zones within in (
      record {
        are_parts = parts_there k is_chunk from zones (subst (λ ns. AreZonesOf ns zones) (sym same) of.are_zones) within;
        scoped = All-from_recursion (λ part. part.chunk.scope ≡ m.scope) (range_parts k from zones) (scopes_there k is_chunk from zones m.scope same);
        is_map = subst (λ zs. IsMapOf zs m) (sym they) of;
        ranges = ranges_there k is_chunk from zones within;
      },
      they,
    )

pub ranges_are_there : RangesAreThere
ranges_are_there k m zones is_chunk of has = ranges_behind_are_there k 0 m zones is_chunk of (from_first k m has)
