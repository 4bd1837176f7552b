-- The parts of a chunk from one on, and what a scan of the first of them finds.
use Rattle.std.proofs.Common.{◌≡◌, ◌<◌, ◌≤◌, ◌+◌, ◌-◌, ℕ, zero, suc, true, List, [], ◌∷◌, Option, Some, All, IsTrue, length, option_map, nat_le, drop, take, refl, ap, sym, subst, ◌∙◌, arith}
use Rattle.std.specs.List.{AllByRecursion}
use Rattle.std.specs.Prelude.{slice_get, sum}
use Rattle.std.proofs.lemmas.Bool.Decides.{nat_tests}
use Rattle.std.proofs.lemmas.List.{length-drop, take-append-drop}
use Rattle.std.proofs.lemmas.List.Elements.{All-take}
use Rattle.std.proofs.lemmas.List.Sums.{sum_by-cons}
use Rattle.std.proofs.lemmas.Option.{same_Some}
use Rattle.vortex_base.specs.Data.Columns.{ChunkData, IsChunk, row_count}
use Rattle.vortex_base.specs.Data.Exact.{both_hold}
use Rattle.vortex_base.specs.Data.Scopes.{Named, scope_eq_is_exact}
use Rattle.vortex_expr.specs.Trees.Tree.{Place, Tree}
use Rattle.vortex_prune.proofs.Honesty.ZoneLemmas.{chunk_alike}
use Rattle.vortex_prune.proofs.Scanning.RangeThere.{ranges_behind_are_there}
use Rattle.vortex_prune.specs.Part.{IsTruePart, PartData}
use Rattle.vortex_zone_map.specs.Zone.{AreZonesOf, ZoneData, fits_zone}
use Rattle.vortex_prune.specs.Scanning.RangeScans.{AreRangesBehind, counts_of, has_ranges_from, range_chunk, range_parts}
use Rattle.vortex_prune.specs.Scanning.Selection.{full, selected_rows}
use Rattle.vortex_prune.specs.Scanning.ZoneScans.{skipped_zones, statistics_answers, whole_zones}
use Rattle.vortex_prune.specs.Zones.{zones_of}
use Rattle.vortex_zone_map.specs.ZoneMaps.{IsMapOf, MapData}
use Rattle.vortex_prune.specs.declared.scan.outcome.RangeScan.{RangeScan}
use Rattle.vortex_rewrite.specs.Rewriting.Falsifiers.{falsifier, satisfier}
use Rattle.vortex_text.proofs.Fitting.PartFits.{one_of}
use Rattle.vortex_text.proofs.StoreLemmas.{counts_append, ranges_long}
use Rattle.vortex_text.proofs.QueryLemmas.{own_answered, skipped_same, whole_same}
use Rattle.vortex_text.specs.Batches.{IsFoundIn}
use Rattle.vortex_text.specs.Fitting.{IsPartOf}

module _ (k : ChunkData) where
  pub ranges_take : (from n : ℕ) (zones : List ZoneData) → take n (range_parts k from zones) ≡ range_parts k from (take n zones)
  ranges_take from zero zones = refl
  ranges_take from (suc n) [] = refl
  ranges_take from (suc n) (z ∷ zones) =
      let first : PartData = record { chunk = range_chunk k from z.rows; stats = z.stats } in
      ap (λ (l : List PartData). first ∷ l) (ranges_take (from + z.rows) n zones)

  pub ranges_drop : (from n : ℕ) (zones : List ZoneData) → drop n (range_parts k from zones) ≡ range_parts k (from + sum (counts_of (take n zones))) (drop n zones)
  ranges_drop from zero zones = let none : from + sum [] ≡ from = omega arith in ap (λ m. range_parts k m zones) (sym none)
  ranges_drop from (suc n) [] = refl
  ranges_drop from (suc n) (z ∷ zones) =
      let counts : (from + z.rows) + sum (counts_of (take n zones)) ≡ from + sum (z.rows ∷ counts_of (take n zones)) = omega (arith, sum_by-cons (λ (m : ℕ). m) z.rows (counts_of (take n zones))) in
      ranges_drop (from + z.rows) n zones ∙ ap (λ m. range_parts k m (drop n zones)) counts

  part_at : (from i : ℕ) (zones : List ZoneData) (z : ZoneData) → slice_get zones i ≡ Some z
      → (m : ℕ) × (slice_get (range_parts k from zones) i ≡ Some (record { chunk = range_chunk k m z.rows; stats = z.stats }))
  part_at from i [] z h = absurd cc
  part_at from zero (y ∷ zones) z h =
      (from, ap (λ (x : ZoneData). let p : PartData = record { chunk = range_chunk k from x.rows; stats = x.stats } in Some p) (same_Some y z h))
  part_at from (suc i) (y ∷ zones) z h = part_at (from + y.rows) i zones z h

  -- the zones of parts of a scope are zones of it
  pub zones_are : (scope : List Named) (from : ℕ) (zones : List ZoneData) → All (IsPartOf scope) (range_parts k from zones) → AreZonesOf scope zones
  zones_are scope from zones all i z there =
      let (m, at) = part_at from i zones z there in
      let p : PartData = record { chunk = range_chunk k m z.rows; stats = z.stats } in
      let part : IsPartOf scope p = one_of (IsPartOf scope) (range_parts k from zones) i p all at in
      let own : fits_zone k.scope z.stats ≡ true = chunk_alike (range_chunk k m z.rows) z.stats part.is_part.0 ∙ part.is_part.1 in
      subst (λ (ns : List Named). fits_zone ns z.stats ≡ true) part.same_scope own

  pub scope_is : (scope : List Named) (from : ℕ) (zones : List ZoneData) → 0 < length zones → All (IsPartOf scope) (range_parts k from zones) → k.scope ≡ scope
  scope_is scope from [] some all = absurd (omega (arith, some))
  scope_is scope from (z ∷ zones) some all =
      let p : PartData = record { chunk = range_chunk k from z.rows; stats = z.stats } in
      (one_of (IsPartOf scope) (range_parts k from (z ∷ zones)) 0 p all refl).same_scope

  ranges_scoped : (scope : List Named) → k.scope ≡ scope → (from : ℕ) (zones : List ZoneData) → AllByRecursion (λ (p : PartData). p.chunk.scope ≡ scope) (range_parts k from zones)
  ranges_scoped scope same from [] = tt
  ranges_scoped scope same from (z ∷ zones) = (same, ranges_scoped scope same (from + z.rows) zones)

-- fewer zones have no more rows
pub counts_take : (n : ℕ) (zones : List ZoneData) → sum (counts_of (take n zones)) + sum (counts_of (drop n zones)) ≡ sum (counts_of zones)
counts_take n zones = sym (counts_append (take n zones) (drop n zones)) ∙ ap (λ zs. sum (counts_of zs)) (take-append-drop n zones)

tested : (a b : ℕ) → a ≤ b → nat_le a b ≡ true
tested a b h = grind (arith, nat_tests)

-- so the map of some of them has ranges of the chunk
pub ranges_of_map : (k : ChunkData) (from : ℕ) (m : MapData) (zones : List ZoneData) → k.scope ≡ m.scope → IsMapOf zones m → from + sum (counts_of zones) ≤ row_count k.columns → IsTrue (has_ranges_from k from m)
ranges_of_map k from m zones same of within =
    let counted : m.rows ≡ counts_of zones = ap (λ (x : MapData). x.rows) of.same in
    both_hold _ _ ((scope_eq_is_exact k.scope m.scope).1 same) (tested (from + sum m.rows) (row_count k.columns) (omega (arith, within, ap sum counted)))

-- ---- a scan of them

module _ (p : Tree Place) (k : ChunkData) (row : ℕ) (m : MapData) (zones : List ZoneData) (found : RangeScan) where
  abbrev parts : List PartData
  parts = range_parts k row zones

  -- what a scan of zones as ranges tells is what is found in these as parts
  pub found_by : IsChunk k → k.scope ≡ m.scope → IsMapOf zones m → row + sum (counts_of zones) ≤ row_count k.columns
      → found.skipped.items ≡ skipped_zones (falsifier [] p) m.scope zones
      → found.whole.items ≡ whole_zones (falsifier [] p) (satisfier [] p) m.scope zones
      → found.selected ≡ selected_rows (falsifier [] p) (satisfier [] p) p (statistics_answers parts)
      → (AllByRecursion IsTruePart parts → found.selected ≡ full p parts)
      → IsFoundIn p parts found
  found_by is_chunk same of within skips wholes rows lossless =
      let f = falsifier [] p in
      let s = satisfier [] p in
      let they : zones_of parts ≡ zones = (ranges_behind_are_there k row m zones is_chunk of (ranges_of_map k row m zones same of within)).1 in
      let scoped = ranges_scoped k m.scope same row zones in
      record {
        skipped = skips ∙ ap (skipped_zones f m.scope) (sym they) ∙ skipped_same f s m.scope parts scoped;
        whole = wholes ∙ ap (whole_zones f s m.scope) (sym they) ∙ whole_same f s m.scope parts scoped;
        selected = rows ∙ ap (selected_rows f s p) (own_answered parts);
        lossless = lossless;
      }

  -- they are ranges of the chunk from a row on
  pub ranges_there : IsChunk k → k.scope ≡ m.scope → IsMapOf zones m → row + sum (counts_of zones) ≤ row_count k.columns → AreRangesBehind k row m parts
  ranges_there is_chunk same of within = (ranges_behind_are_there k row m zones is_chunk of (ranges_of_map k row m zones same of within)).0

-- ---- of those that are left, the first ones

module _ (k : ChunkData) (zones : List ZoneData) (place row : ℕ) (now : List PartData) (left : range_parts k row (drop place zones) ≡ now) where
  pub left_long : length now ≡ length zones - place
  left_long = ap length (sym left) ∙ ranges_long k row (drop place zones) ∙ length-drop place zones

  pub left_first : (count : ℕ) → range_parts k row (take count (drop place zones)) ≡ take count now
  left_first count = sym (ranges_take k row count (drop place zones)) ∙ ap (take count) left

  pub left_zones : (scope : List Named) (count : ℕ) → All (IsPartOf scope) now → AreZonesOf scope (take count (drop place zones))
  left_zones scope count all = zones_are k scope row (take count (drop place zones)) (subst (All (IsPartOf scope)) (sym (left_first count)) (All-take (IsPartOf scope) count now all))

  pub left_scope : (scope : List Named) → 0 < length now → All (IsPartOf scope) now → k.scope ≡ scope
  left_scope scope some all =
      scope_is k scope row (drop place zones) (omega (arith, some, left_long, length-drop place zones)) (subst (All (IsPartOf scope)) (sym left) all)

  pub left_within : (count : ℕ) → row + sum (counts_of (drop place zones)) ≤ row_count k.columns → row + sum (counts_of (take count (drop place zones))) ≤ row_count k.columns
  left_within count within = omega (arith, within, counts_take count (drop place zones))

-- ---- how many rows zones have

dropped_at : {X : Type 0} (xs : List X) (from i : ℕ) → slice_get (drop from xs) i ≡ slice_get xs (from + i)
dropped_at xs zero i = let none : i ≡ 0 + i = omega arith in ap (slice_get xs) none
dropped_at [] (suc from) i = refl
dropped_at (x ∷ xs) (suc from) i = let next : suc (from + i) ≡ suc from + i = omega arith in dropped_at xs from i ∙ ap (slice_get (x ∷ xs)) next

abbrev rows_at : Option ZoneData → Option ℕ
rows_at o = option_map (λ (z : ZoneData). z.rows) o

count_more : (zones : List ZoneData) (n r : ℕ) → rows_at (slice_get zones n) ≡ Some r → sum (counts_of (take (suc n) zones)) ≡ sum (counts_of (take n zones)) + r
count_more [] n r h = absurd cc
count_more (z ∷ zones) zero r h =
    let same : z.rows ≡ r = same_Some z.rows r h in
    omega (arith, same, sum_by-cons (λ (m : ℕ). m) z.rows [])
count_more (z ∷ zones) (suc n) r h =
    omega (arith, count_more zones n r h, sum_by-cons (λ (m : ℕ). m) z.rows (counts_of (take (suc n) zones)), sum_by-cons (λ (m : ℕ). m) z.rows (counts_of (take n zones)))

-- one more zone has so many
pub rows_next : (zones : List ZoneData) (from place r : ℕ) → from ≤ place → rows_at (slice_get zones place) ≡ Some r
    → sum (counts_of (take (place + 1 - from) (drop from zones))) ≡ sum (counts_of (take (place - from) (drop from zones))) + r
rows_next zones from place r behind h =
    let at : from + (place - from) ≡ place = omega (arith, behind) in
    let next : place + 1 - from ≡ suc (place - from) = omega (arith, behind) in
    let there : rows_at (slice_get (drop from zones) (place - from)) ≡ Some r = ap rows_at (dropped_at zones from (place - from) ∙ ap (slice_get zones) at) ∙ h in
    ap (λ n. sum (counts_of (take n (drop from zones)))) next ∙ count_more (drop from zones) (place - from) r there

-- a front has no more rows than a longer one
pub counts_front : (n m : ℕ) (zones : List ZoneData) → n ≤ m → sum (counts_of (take n zones)) ≤ sum (counts_of (take m zones))
counts_front zero m zones h = omega arith
counts_front (suc n) zero zones h = absurd (omega (arith, h))
counts_front (suc n) (suc m) [] h = omega arith
counts_front (suc n) (suc m) (z ∷ zones) h =
    omega (arith, counts_front n m zones (omega (arith, h)), sum_by-cons (λ (k : ℕ). k) z.rows (counts_of (take n zones)), sum_by-cons (λ (k : ℕ). k) z.rows (counts_of (take m zones)))

-- ---- the map of all of them

pub all_map : (k : ChunkData) (m : MapData) (scope : List Named) (zones : List ZoneData) → IsChunk k → m.scope ≡ scope → All (IsPartOf scope) (range_parts k 0 zones) → sum (counts_of zones) ≤ row_count k.columns
    → IsMapOf zones m → IsMapOf (zones_of (range_parts k 0 zones)) m
all_map k m scope [] is_chunk same all within of = of
all_map k m scope (z ∷ zones) is_chunk same all within of =
    let own : k.scope ≡ m.scope = scope_is k scope 0 (z ∷ zones) (omega arith) all ∙ sym same in
    let they = (ranges_behind_are_there k 0 m (z ∷ zones) is_chunk of (ranges_of_map k 0 m (z ∷ zones) own of (omega (arith, within)))).1 in
    subst (λ zs. IsMapOf zs m) (sym they) of
